-- Left sides beside one another.
use Rattle.std.specs.Prelude.{List, map, zip, Bool}
use Rattle.std.specs.List.{list_any}
use Rattle.smv_core.specs.Assignments.{Index}
use Rattle.smv_core.specs.FlatMeaning.{flat_index}
use Rattle.smv_core.specs.declared.flat.FlatExpr.{FlatExpr}

-- so it is at some index of the two left sides
abbrev pub any_two : (Index → Index → Bool) → List FlatExpr → List FlatExpr → Bool
any_two test xs ys = list_any (λ (i, j). test i j) (zip (map flat_index xs) (map flat_index ys))
