use Rattle.std.proofs.Common.{refl}
use Rattle.smv_encode.proofs.Calls.{store_keeps, first_means}
use Rattle.smv_encode.proofs.times.first_by.Goals as goal

pub returns-clause-keeps : goal.returns-clause-keeps
returns-clause-keeps c = store_keeps c.args.store.now c.met-r.new.s c.vars.ensures.sound c.vars-2.ensures.sound c.met-r.ensures.keeps

pub returns-clause-means : goal.returns-clause-means
returns-clause-means c = first_means c.args.store.now c.met-r.new.s c.args.problem.now c.args.demand.now c.args.current.now c.args.current.now _ refl refl c.met-r.result c.met-r.ensures.is
