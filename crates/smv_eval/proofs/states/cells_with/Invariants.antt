use Rattle.std.proofs.Common.{◌≡◌, ◌++◌}
use Rattle.smv_eval.specs.States.{state_cells}
use Rattle.smv_eval.proofs.states.cells_with.Given as goal

abbrev pub invariant-loop-element : goal.invariant-loop-element
invariant-loop-element l = l.cells.items ++ state_cells l.problem l.element-iterator.a.rest.now l.element-iterator.b.rest.now ≡ state_cells l.problem l.elements l.values
