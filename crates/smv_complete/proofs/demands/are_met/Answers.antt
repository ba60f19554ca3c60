use Rattle.smv_complete.proofs.Defined.{of_now}
use Rattle.smv_complete.proofs.demands.are_met.Goals as goal

pub returns : goal.returns
returns c = of_now c.args.problem.now c.args.cells.now c.args.element.now c.as_slice.result.now c.as_slice.ensures c.in_ok-met.met c.in_ok-met.ensures
