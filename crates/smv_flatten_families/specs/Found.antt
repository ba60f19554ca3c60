-- What is looked up in the tables of a text.
use Rattle.std.specs.Prelude.{ℕ, [], ◌∷◌, map, Option, Some, None, Bool, true, false}
use Rattle.smv_core.specs.Values.{Name, Path}
use Rattle.smv_flatten_families.specs.Paths.{first_place}
use Rattle.smv_flatten_families.specs.Held.{scope_here}
use Rattle.smv_flatten_families.specs.declared.numbers.Here.{Here}

-- the first place of a path among those of the families
unfoldable pub family_place : Here → Path → Option ℕ
family_place here path = first_place (map (λ f. f.path) (scope_here here).families) path

-- the name of a path that is a name alone
abbrev pub lone_name : Path → Option Name
lone_name (name ∷ []) = Some name
lone_name _ = None

-- a path without a name
abbrev pub is_empty : Path → Bool
is_empty [] = true
is_empty (name ∷ path) = false
