-- Left sides that are known to be to another element than one of these indexes.
use Rattle.std.specs.Prelude.{List, [], ◌∷◌, get_or, slice_get, Some, None, option_map, Bool, false, ◌||◌, not}
use Rattle.smv_core.specs.Values.{number, constant}
use Rattle.smv_core.specs.declared.flat.FlatExpr.{FlatExpr, Number, Var, Loop, Constant}
use Rattle.law_obligations.specs.Places.{Place, World, AbsOutcome, named, as_place, same_place}

-- where a number, a variable or a constant is; nothing is known of any other expression
abbrev pub known_place : World → List Place → FlatExpr → AbsOutcome
known_place w b (Number value at) = Some (named (number value))
known_place w b (Var var at) = slice_get b var
known_place w b (Loop value at) = Some (named (number value))
known_place w b (Constant list value at) = as_place (option_map constant (slice_get (get_or w.classes.enums list []) value))
known_place w b _ = None

-- it is known to be at another place
abbrev pub is_other : Place → AbsOutcome → Bool
is_other q (Some p) = not (same_place p q)
is_other q None = false

-- one of the indexes is
abbrev pub is_elsewhere : World → List Place → List FlatExpr → List Place → Bool
is_elsewhere w [] es b = false
is_elsewhere w (q ∷ qs) [] b = false
is_elsewhere w (q ∷ qs) (e ∷ es) b = is_other q (known_place w b e) || is_elsewhere w qs es b
