use Rattle.smv_encode.proofs.Calls.{store_keeps, guard_means}
use Rattle.smv_encode.proofs.times.guard_by.Goals as goal

pub returns-clause-keeps : goal.returns-clause-keeps
returns-clause-keeps c = store_keeps c.args.store.now c.may_hold-r.new.s c.vars.ensures.sound c.vars-2.ensures.sound c.may_hold-r.ensures.keeps

pub returns-clause-means : goal.returns-clause-means
returns-clause-means c = guard_means c.args.store.now c.may_hold-r.new.s c.args.problem.now c.args.now.now c.args.guard.now c.may_hold-r.result c.may_hold-r.ensures.is
