use Rattle.std.proofs.Common.{◌≡◌}
use Rattle.smv_eval.specs.States.{state_cells}
use Rattle.smv_complete.proofs.First.{IsSameBeside, NoneOf}
use Rattle.smv_complete.proofs.work_out_one.Given as goal

abbrev pub invariant-loop-choice : goal.invariant-loop-choice
invariant-loop-choice l = record {
  cells : l.cells.items ≡ state_cells l.problem l.problem.elements l.values.items;
  same : IsSameBeside l.fn.values.items l.place l.values.items;
  none : NoneOf l.problem l.element l.fn.values.items l.choice-index;
}
