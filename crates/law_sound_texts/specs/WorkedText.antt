-- A worked text, with one abstract signal in two layers.
use Rattle.std.specs.Prelude.{◌≡◌, ℕ, true, List, [], ◌∷◌, codes, Some, None, option_map}
use Rattle.smv_core.specs.Values.{number, Sizes, range}
use Rattle.smv_core.specs.Types.{Family}
use Rattle.smv_core.specs.FlatOrder.{design_of}
use Rattle.smv_core.specs.Outcome.{State}
use Rattle.smv_core.specs.Allowed.{base_of}
use Rattle.smv_core.specs.Sound.{IsRun}
use Rattle.smv_core.specs.Grammar.{named}
use Rattle.smv_core.specs.declared.tree.Word.{Word}
use Rattle.smv_core.specs.declared.tree.Expr.TheVariants.{Number}
use Rattle.smv_core.specs.declared.tree.TypeExpr.TheVariants.{Boolean}
use Rattle.smv_core.specs.declared.tree.Kind.TheVariants.{Comb}
use Rattle.smv_core.specs.declared.tree.Stmt.TheVariants.{Assign}
use Rattle.smv_core.specs.declared.tree.Role.TheVariants.{Abstract}
use Rattle.smv_core.specs.declared.tree.Item.{Item}
use Rattle.smv_core.specs.declared.tree.Item.TheVariants.{Declare, Layer}
use Rattle.smv_core.specs.declared.tree.Top.TheVariants.{Module}
use Rattle.smv_core.specs.declared.tree.Text.{Text}
use Rattle.smv_core.specs.declared.flat.Def.{Def}
use Rattle.law_designs.specs.Flattening.{flatten}
use Rattle.law_designs.specs.Definitions.{design_of_flat_text}
use Rattle.law_obligations.specs.Outlines as outline
use Rattle.law_designs.specs.FirstFault.{first_fault_of_design}

abbrev pub word : List ℕ → Word
word name = record { name = name; at = 0 }

-- layer name : { s := value; }
abbrev pub layer_that_sets : List ℕ → ℕ → Item
layer_that_sets name value = Layer (word name) (Assign Comb (named (word (codes "s")) []) (Number value 0) 0 ∷ []) 0

-- module main() { abstract s : boolean; layer B : { s := 1; } layer A : { s := 0; } }
abbrev pub two_layers : Text
two_layers = record { tops = Module (word (codes "main")) [] (Declare Abstract (word (codes "s") ∷ []) Boolean 0 ∷ layer_that_sets (codes "B") 1 ∷ layer_that_sets (codes "A") 0 ∷ []) 0 ∷ [] }

-- its abstract signal
abbrev pub the_signal : Family
the_signal = record { path = codes "s" ∷ []; over = []; value = range 0 1; is_abstract = true }

-- the state in which each signal has this value
abbrev pub all_of : ℕ → State
all_of value path indexes = number value

-- the base definition is that of the layer B, which stands first
abbrev pub TakesTheFirst : Type 0
TakesTheFirst =
    ((design_of two_layers).families ≡ the_signal ∷ [])
    × (first_fault_of_design (design_of_flat_text (flatten two_layers)) ≡ None)
    × (base_of (design_of two_layers) the_signal ≡ Some (Some (codes "B")))
    × (option_map (λ (def : Def). def.layer) (outline.base_of (design_of_flat_text (flatten two_layers)) 0) ≡ Some (Some 0))

-- so a run has the value 1 at each of its two times, and none has the value 0 at one
abbrev pub RunsAreOfTheFirst : Type 0
RunsAreOfTheFirst = (sizes : Sizes) → IsRun (design_of two_layers) sizes (all_of 1 ∷ all_of 1 ∷ []) × (IsRun (design_of two_layers) sizes (all_of 1 ∷ all_of 0 ∷ []) → ⊥)
