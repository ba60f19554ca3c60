-- The set types and enumerations of a text by their numbers.
use Rattle.std.specs.Prelude.{◌≡◌, [], map, length}
use Rattle.std.specs.HashMap.{get}
use Rattle.smv_core.specs.Values.{Path}
use Rattle.smv_core.specs.Outcome.{same_path}
use Rattle.smv_core.specs.declared.tree.Text.{Text}
use Rattle.law_designs.specs.Numbers.{Scope}
use Rattle.law_designs.specs.Flattening.{scope_in}
use Rattle.smv_flatten_families.specs.Paths.{first_place}
use Rattle.smv_flatten_families.specs.declared.simples.Simples.{Simples}

-- what the numbers in a text's flattened form stand for; they are the same in each instance
unfoldable pub numbering : Text → Scope
numbering text = scope_in text []

-- the numbers of set types and enumerations
pub record AreSimples (simples : Simples) : Type 0 where
  pub sets : simples.sets ≡ map (λ info. info.name) (numbering simples.text.now).sets
  pub set_count : simples.set_count ≡ length (numbering simples.text.now).sets
  pub lists : (names : Path) → get same_path simples.lists names ≡ first_place (numbering simples.text.now).enums names
  pub list_count : simples.list_count ≡ length (numbering simples.text.now).enums
