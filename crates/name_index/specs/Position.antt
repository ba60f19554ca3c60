-- Where a name stands in a list of names.
use Rattle.std.specs.Prelude.{ℕ, suc, List, [], ◌∷◌, Option, Some, None, Bool, if◌then◌else◌, option_map}
use Rattle.std.specs.Str.{bytes_eq}
use Rattle.indexmap.specs.IndexMap.{IndexMap, get_by}
use Rattle.std.proofs.Common.{Bor}
use Rattle.smv_core.specs.Values.{Name}

-- the first place of a name in a list
abbrev pub position : List Name → Name → Option ℕ
position [] name = None
position (x ∷ names) name = if bytes_eq x name then Some 0 else option_map suc (position names name)

-- a place that was found, or else this one where it is the name's
abbrev pub found_or : Option ℕ → Bool → ℕ → Option ℕ
found_or (Some found) is_it place = Some found
found_or None is_it place = if is_it then Some place else None

-- the place that is noted of a name
abbrev pub noted : {S : Type 0} → IndexMap (Bor (List ℕ)) ℕ S → Name → Option ℕ
noted places name = get_by (λ key. bytes_eq name key.now) places
