-- What the tables of a text hold, and where something stands.
use Rattle.std.specs.Prelude.{◌≡◌, [], map, flat_map, length}
use Rattle.std.specs.HashMap.{get}
use Rattle.smv_core.specs.Values.{Path}
use Rattle.smv_core.specs.FlatOrder as order
use Rattle.smv_core.specs.Outcome.{same_path}
use Rattle.law_designs.specs.Numbers.{Scope}
use Rattle.law_designs.specs.Entries.{placed_families}
use Rattle.law_designs.specs.Flattening.{set_of, enums_of, flat_family, scope_in}
pub use Rattle.smv_flatten_families.specs.Paths.{path_of}
pub use Rattle.smv_flatten_families.specs.Families.{body_now, body_beside}
use Rattle.smv_flatten_families.specs.Paths.{first_place}
use Rattle.smv_flatten_families.specs.Lists.{constants_from}
use Rattle.smv_flatten_families.specs.Types.{AreTypes}
use Rattle.smv_core.specs.Types.{names_of}
use Rattle.smv_core.specs.declared.tree.Text.{Text}
use Rattle.smv_flatten_families.specs.declared.enums.Lists.{Lists}
use Rattle.smv_flatten_families.specs.declared.numbers.Numbers.{Numbers}
use Rattle.smv_flatten_families.specs.declared.numbers.Here.{Here}

-- the names that lead to an instance
abbrev pub instance_of : Here → Path
instance_of here = path_of here.instance.now

-- where the statements of an instance stand
unfoldable pub scope_here : Here → Scope
scope_here here = scope_in here.numbers.now.text.now (instance_of here)

-- these are the enumerations of a text, with the place of each
pub record AreEnums (text : Text) (lists : Lists) : Type 0 where
  pub words : map (λ words. names_of words.now) lists.words.items ≡ enums_of text
  pub places : (names : Path) → get same_path lists.places names ≡ first_place (enums_of text) names

-- the numbers of a text
pub record AreNumbers (numbers : Numbers) : Type 0 where
  pub sets : numbers.sets ≡ flat_map set_of numbers.text.now.tops
  pub enums : numbers.enums ≡ enums_of numbers.text.now
  pub families : numbers.families ≡ map (flat_family (scope_in numbers.text.now [])) (placed_families numbers.text.now)
  pub modules : map body_beside numbers.modules ≡ order.modules numbers.text.now.tops
  pub module_count : numbers.module_count ≡ length (order.modules numbers.text.now.tops)
  pub types : AreTypes numbers.types
  pub types_text : numbers.types.simples.text.now ≡ numbers.text.now
  pub constants : numbers.constants ≡ constants_from 0 (enums_of numbers.text.now)
  pub places : (path : Path) → get same_path numbers.places path ≡ first_place (map (λ placed. placed.0.path) (placed_families numbers.text.now)) path
