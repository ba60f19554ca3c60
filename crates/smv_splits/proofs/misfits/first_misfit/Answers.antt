use Rattle.smv_first_fault.proofs.LeastLaws.{least-step}
use Rattle.law_splits.specs.SplitFaults as splits
use Rattle.smv_splits.proofs.misfits.first_misfit.Goals as goal

pub loop-split-preserved : goal.loop-split-preserved
loop-split-preserved c =
    least-step (splits.misfits c.args.families.now) c.args.splits.now c.loop-split.split-index c.split-item.result c.loop-split.found c.in_ok-misfit.misfit c.first_of-found.result _
    c.loop-split-test.true c.split-item.is c.in_ok-misfit.ensures c.first_of-found.ensures c.loop-split.invariant
