use Rattle.std.proofs.Common.{refl}
use Rattle.smv_encode.proofs.Calls.{store_keeps, step_means, step_says}
use Rattle.smv_encode.proofs.KnownCases.{both_known}
use Rattle.smv_encode.proofs.times.step_by.Goals as goal

pub returns-clause-keeps : goal.returns-clause-keeps
returns-clause-keeps c = store_keeps c.args.store.now c.met-r.new.s c.vars.ensures.sound c.vars-2.ensures.sound c.met-r.ensures.keeps

pub returns-clause-means : goal.returns-clause-means
returns-clause-means c =
    step_says c.args.store.now c.met-r.new.s c.args.problem.now c.args.demand.now c.args.cells.now c.met-r.result
    (step_means c.args.store.now c.met-r.new.s c.args.problem.now c.args.demand.now c.args.cells.now.current.items c.args.cells.now.next.items _ _ _ c.as_slice-old.ensures.value c.as_slice.ensures.value refl c.met-r.result c.met-r.ensures.is)

pub returns-clause-known : goal.returns-clause-known
returns-clause-known c = both_known c.met-r.new.s c.args.problem.now c.args.cells.now _ _ _ c.as_slice-old.ensures.value c.as_slice.ensures.value c.met-r.result c.met-r.ensures.past c.met-r.ensures.known
