use Rattle.std.proofs.Common.{◌≡◌, length}
use Rattle.smv_single_assignment.specs.Shared.{all_two, stays_bare}
use Rattle.smv_single_assignment.proofs.shared.all_stay.Given as goal

abbrev pub invariant-loop-lefts : goal.invariant-loop-lefts
invariant-loop-lefts l = all_two (stays_bare l.var) l.lefts l.rights ≡ all_two (stays_bare l.var) l.left l.right

abbrev pub decreases-loop-lefts : goal.decreases-loop-lefts
decreases-loop-lefts l = length l.lefts
