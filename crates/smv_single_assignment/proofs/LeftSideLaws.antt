-- Left sides beside one another, to their ends.
use Rattle.std.proofs.Common.{◌≡◌, ◌<◌, List, [], ◌∷◌, length, Bool, false, refl, arith}
use Rattle.smv_core.specs.Assignments.{Index}
use Rattle.smv_core.specs.declared.flat.FlatExpr.{FlatExpr}
use Rattle.smv_single_assignment.specs.LeftSides.{any_two}

-- nothing is left on one side
pub two-left : (test : Index → Index → Bool) (xs ys : List FlatExpr) → length xs < 1 → any_two test xs ys ≡ false
two-left test [] ys h = refl
two-left test (x ∷ xs) ys h = absurd (omega arith)

pub two-right : (test : Index → Index → Bool) (xs ys : List FlatExpr) → length ys < 1 → any_two test xs ys ≡ false
two-right test [] ys h = refl
two-right test (x ∷ xs) [] h = refl
two-right test (x ∷ xs) (y ∷ ys) h = absurd (omega arith)

pub ruleset ends = (two-left, two-right)
