use Rattle.std.proofs.Common.{◌≡◌, ◌++◌}
use Rattle.smv_core.specs.Walk.{steps_of}
use Rattle.smv_flatten_statements.specs.Turns.{turns_from}
use Rattle.smv_flatten_statements.proofs.turns.turns.Given as goal

abbrev pub decreases-loop-left : goal.decreases-loop-left
decreases-loop-left l = l.left

abbrev pub invariant-loop-left : goal.invariant-loop-left
invariant-loop-left l = l.numbers.items ++ turns_from l.to l.closed l.step l.n l.left ≡ steps_of l.from l.to l.closed l.step
