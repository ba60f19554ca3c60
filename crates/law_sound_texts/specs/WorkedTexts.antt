-- Worked texts of one abstract signal in two layers: the first gives its base definition, and the second is a map.
use Rattle.std.specs.Prelude.{◌≡◌, [], ◌∷◌, codes}
use Rattle.smv_core.specs.FlatOrder.{design_of}
use Rattle.smv_core.specs.Sound.{map_of, units, IsSound}
use Rattle.smv_core.specs.declared.tree.Item.TheVariants.{Declare}
use Rattle.smv_core.specs.declared.tree.Role.TheVariants.{Abstract}
use Rattle.smv_core.specs.declared.tree.Text.{Text}
use Rattle.smv_core.specs.declared.tree.Top.TheVariants.{Module}
use Rattle.smv_core.specs.declared.tree.TypeExpr.TheVariants.{Boolean}
use Rattle.smv_core.specs.declared.flat.Unit.TheVariants.{Map}
use Rattle.law_designs.specs.Flattening.{flatten}
use Rattle.law_designs.specs.Definitions.{design_of_flat_text}
use Rattle.law_obligations.specs.Units.{units_of}
use Rattle.law_sound_texts.specs.WorkedText.{two_layers, the_signal, word, layer_that_sets}
use Rattle.law_sound_texts.specs.Carried.{UnitsHold}

-- the map of the layer A is the one unit of the text, and the second definition that of the design
abbrev pub HasOneMap : Type 0
HasOneMap = (units (design_of two_layers) ≡ map_of (codes "A") the_signal ∷ []) × (units_of (design_of_flat_text (flatten two_layers)) ≡ Map 1 ∷ [])

-- it holds neither in the text nor in the design
abbrev pub HoldsInNeither : Type 0
HoldsInNeither = (IsSound two_layers → ⊥) × (UnitsHold (design_of_flat_text (flatten two_layers)) → ⊥)

-- module main() { abstract s : boolean; layer B : { s := 1; } layer A : { s := 1; } }
abbrev pub agreeing_layers : Text
agreeing_layers = record { tops = Module (word (codes "main")) [] (Declare Abstract (word (codes "s") ∷ []) Boolean 0 ∷ layer_that_sets (codes "B") 1 ∷ layer_that_sets (codes "A") 1 ∷ []) 0 ∷ [] }

-- here it holds in both
abbrev pub HoldsInBoth : Type 0
HoldsInBoth = IsSound agreeing_layers × UnitsHold (design_of_flat_text (flatten agreeing_layers))
