use Rattle.std.proofs.Common.{refl}
use Rattle.smv_encode.proofs.Calls.{store_keeps, target_step_means, target_says}
use Rattle.smv_encode.proofs.KnownCases.{both_known}
use Rattle.smv_encode.proofs.times.target_step.Goals as goal

pub returns-clause-keeps : goal.returns-clause-keeps
returns-clause-keeps c = store_keeps c.args.store.now c.broken-r.new.s c.vars.ensures.sound c.vars-2.ensures.sound c.broken-r.ensures.keeps

pub returns-clause-means : goal.returns-clause-means
returns-clause-means c =
    target_says c.args.store.now c.broken-r.new.s c.args.problem.now c.args.cells.now c.broken-r.result
    (target_step_means c.args.store.now c.broken-r.new.s c.args.problem.now c.args.cells.now.current.items c.args.cells.now.next.items _ _ _ c.as_slice-old.ensures.value c.as_slice.ensures.value refl c.broken-r.result c.broken-r.ensures.is)

pub returns-clause-known : goal.returns-clause-known
returns-clause-known c = both_known c.broken-r.new.s c.args.problem.now c.args.cells.now _ _ _ c.as_slice-old.ensures.value c.as_slice.ensures.value c.broken-r.result c.broken-r.ensures.past c.broken-r.ensures.known
