-- Lists of constants, each once, and the constants in them.
use Rattle.std.specs.Prelude.{◌≡◌, ℕ, ◌+◌, List, [], ◌∷◌, ◌++◌, map}
use Rattle.std.specs.HashMap.{get}
use Rattle.smv_core.specs.Values.{Name, Path}
use Rattle.smv_core.specs.Types.{names_of}
use Rattle.smv_core.specs.Outcome.{same_path}
use Rattle.law_designs.specs.Flattening.{different}
use Rattle.smv_flatten_families.specs.Paths.{first_place}
use Rattle.smv_flatten_families.specs.declared.enums.Constant.{Constant}
use Rattle.smv_flatten_families.specs.declared.enums.Lists.{Lists}

-- the different ones of these lists, with their places
pub record AreLists (lists : Lists) (seen : List Path) : Type 0 where
  pub words : map (λ words. names_of words.now) lists.words.items ≡ different same_path seen
  pub places : (names : Path) → get same_path lists.places names ≡ first_place (different same_path seen) names

-- the constants of the list of a number, the first at this place
abbrev pub constants_of_list : ℕ → ℕ → List Name → List (Name × Constant)
constants_of_list list place [] = []
constants_of_list list place (name ∷ names) = (name, record { list = list; value = place }) ∷ constants_of_list list (place + 1) names

-- the constants of lists, the first of this number
abbrev pub constants_from : ℕ → List (List Name) → List (Name × Constant)
constants_from list [] = []
constants_from list (names ∷ lists) = constants_of_list list 0 names ++ constants_from (list + 1) lists
