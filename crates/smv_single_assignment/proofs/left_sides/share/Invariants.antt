use Rattle.std.proofs.Common.{◌≡◌, length}
use Rattle.smv_core.specs.Conflicts.{are_both}
use Rattle.smv_single_assignment.specs.LeftSides.{any_two}
use Rattle.smv_single_assignment.proofs.left_sides.share.Given as goal

abbrev pub invariant-loop-lefts : goal.invariant-loop-lefts
invariant-loop-lefts l = any_two (are_both l.var) l.lefts l.rights ≡ any_two (are_both l.var) l.left l.right

abbrev pub decreases-loop-lefts : goal.decreases-loop-lefts
decreases-loop-lefts l = length l.lefts
