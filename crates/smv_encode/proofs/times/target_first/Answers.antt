use Rattle.std.proofs.Common.{refl}
use Rattle.smv_encode.proofs.Calls.{store_keeps, target_first_means}
use Rattle.smv_encode.proofs.times.target_first.Goals as goal

pub returns-clause-keeps : goal.returns-clause-keeps
returns-clause-keeps c = store_keeps c.args.store.now c.broken-r.new.s c.vars.ensures.sound c.vars-2.ensures.sound c.broken-r.ensures.keeps

pub returns-clause-means : goal.returns-clause-means
returns-clause-means c = target_first_means c.args.store.now c.broken-r.new.s c.args.problem.now c.args.current.now c.args.current.now _ refl refl c.broken-r.result c.broken-r.ensures.is
