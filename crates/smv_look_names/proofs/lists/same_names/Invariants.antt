use Rattle.std.proofs.Common.{◌≡◌, length}
use Rattle.smv_core.specs.Outcome.{same_path}
use Rattle.smv_core.specs.Types.{names_of}
use Rattle.smv_look_names.proofs.lists.same_names.Given as goal

abbrev pub invariant-loop-lefts : goal.invariant-loop-lefts
invariant-loop-lefts l = same_path (names_of l.lefts) (names_of l.rights) ≡ same_path (names_of l.left) (names_of l.right)

abbrev pub decreases-loop-lefts : goal.decreases-loop-lefts
decreases-loop-lefts l = length l.lefts
