use Rattle.std.proofs.Common.{◌≡◌}
use Rattle.smv_eval.specs.States.{state_cells}
use Rattle.smv_complete.proofs.First.{AreSoFar}
use Rattle.smv_complete.proofs.work_out.Given as goal

abbrev pub invariant-loop-wire : goal.invariant-loop-wire
invariant-loop-wire l = record {
  cells : l.cells.items ≡ state_cells l.problem l.problem.elements l.values.items;
  so_far : AreSoFar l.problem l.wires l.fn.state l.wire-index l.values.items;
}
