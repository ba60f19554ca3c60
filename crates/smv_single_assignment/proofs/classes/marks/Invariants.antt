use Rattle.std.proofs.Common.{◌≡◌, length}
use Rattle.smv_single_assignment.proofs.classes.marks.Given as goal

abbrev pub invariant-loop-step : goal.invariant-loop-step
invariant-loop-step l = length l.marks.items ≡ l.step
