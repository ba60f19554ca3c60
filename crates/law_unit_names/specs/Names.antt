-- Names of units, by their bytes.
use Rattle.std.specs.Prelude.{◌≡◌, ℕ, List, [], ◌∷◌, None, Ok, Bool, true, false, ◌&&◌, nat_le}
use Rattle.std.specs.List.{list_all}
use Rattle.smv_core.specs.Values.{Name}
use Rattle.smv_core.specs.Notation.{Tokens}
use Rattle.smv_core.specs.Spelling.{Spells}
use Rattle.smv_core.specs.declared.tree.Text.{Text}
use Rattle.smv_core.specs.declared.flat.Unit.{Unit}
use Rattle.smv_lex.specs.Lexing.{lexed}
use Rattle.law_designs.specs.Flattening.{flatten}
use Rattle.law_designs.specs.WellKinded.{IsWellKinded}
use Rattle.law_designs.specs.SingleFaults.{first_fault_of_single}
use Rattle.law_designs.specs.Definitions.{design_of_flat_text}
use Rattle.law_obligations.specs.Sets.{Has}
use Rattle.law_obligations.specs.Outlines.{unit_in}
use Rattle.law_obligations.specs.Units.{units_of}
use Rattle.law_splits.specs.Leaves.{name_of}

-- a byte that is seen: of ASCII, and no blank
abbrev pub is_visible : ℕ → Bool
is_visible b = nat_le 33 b && nat_le b 126

-- at least one byte, and only bytes that are seen
abbrev pub is_visible_name : Name → Bool
is_visible_name [] = false
is_visible_name (b ∷ name) = list_all is_visible (b ∷ name)

-- where these bytes are a text without a fault of names, kinds and single assignment, the name of each unit of its design is such a name
abbrev pub UnitNamesAreVisible : Type 0
UnitNamesAreVisible = (bytes : List ℕ) (tokens : Tokens) (n : ℕ) (tree : Text) → lexed bytes ≡ Ok tokens → Spells n tokens tree → IsWellKinded tree → first_fault_of_single (flatten tree) ≡ None →
    (unit : Unit) → Has (units_of (design_of_flat_text (flatten tree))) unit →
    is_visible_name (name_of (design_of_flat_text (flatten tree)) (unit_in (design_of_flat_text (flatten tree)) unit)) ≡ true
