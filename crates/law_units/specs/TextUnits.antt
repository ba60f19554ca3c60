-- The units of a text and those of its design, one for one.
use Rattle.std.specs.Prelude.{◌≡◌, List, [], ◌∷◌, ◌++◌, map, slice_get, option_and_then, Some, None}
use Rattle.std.specs.List.{AllZip}
use Rattle.smv_core.specs.Values.{Name}
use Rattle.smv_core.specs.FlatOrder.{design_of}
use Rattle.smv_core.specs.Sound.{ProofUnit, map_of, claim_of, units}
use Rattle.smv_core.specs.declared.tree.Text.{Text}
use Rattle.smv_core.specs.declared.flat.Claim.{Claim as FlatClaim}
use Rattle.smv_core.specs.declared.flat.Def.{Def}
use Rattle.smv_core.specs.declared.flat.Design.{Design}
use Rattle.smv_core.specs.declared.flat.Unit.{Unit}
use Rattle.smv_core.specs.declared.flat.Unit.TheVariants.{Map, Claim}
use Rattle.law_designs.specs.Flattening.{dotted, flatten}
use Rattle.law_designs.specs.WholeText.{claims_met}
use Rattle.law_designs.specs.WellKinded.{IsWellKinded}
use Rattle.law_designs.specs.Definitions.{design_of_flat_text}
use Rattle.law_designs.specs.FirstFault.{first_fault_of_design}
use Rattle.law_obligations.specs.Outlines.{unit_in}
use Rattle.law_obligations.specs.Units.{units_of}
use Rattle.law_splits.specs.Leaves.{in_layer, name_of}

-- the design of a text
abbrev pub flat_design : Text → Design
flat_design text = design_of_flat_text (flatten text)

module _ (text : Text) where
  -- A unit of the text is one of its design: a map is of the family and of the layer that the definition has by their numbers, and a claim has the same place among the
  -- claims.
  abbrev pub IsSameUnit : ProofUnit → Unit → Type 0
  IsSameUnit (map_of layer f) (Map k) =
      (def : Def) × (slice_get (flat_design text).defs k ≡ Some def) × (slice_get (design_of text).families def.family ≡ Some f) × (option_and_then (slice_get (flat_design text).layers) def.layer ≡ Some layer)
  IsSameUnit (claim_of c) (Claim k) = (claim : FlatClaim) × (slice_get (flat_design text).claims k ≡ Some claim) × (slice_get (claims_met (design_of text).met) k ≡ Some c)
  IsSameUnit _ _ = ⊥

-- the name of a unit as it is written: a map has that of its family with its layer, and a claim its own behind that of its instance
abbrev pub written_name : ProofUnit → Name
written_name (map_of layer f) = in_layer (dotted f.path) (Some layer)
written_name (claim_of c) = dotted (c.instance ++ c.name ∷ [])

-- the names of the units of a design, in their order
abbrev pub names_in : Design → List Name
names_in d = map (λ unit. name_of d (unit_in d unit)) (units_of d)

-- a text without a fault of its kinds, layers and loops and its design have the same units in the same order
abbrev pub UnitsAreTheSame : Type 0
UnitsAreTheSame = (text : Text) → IsWellKinded text → first_fault_of_design (flat_design text) ≡ None → AllZip (IsSameUnit text) (units (design_of text)) (units_of (flat_design text))

-- with the same names
abbrev pub NamesAreTheSame : Type 0
NamesAreTheSame = (text : Text) → IsWellKinded text → first_fault_of_design (flat_design text) ≡ None → map written_name (units (design_of text)) ≡ names_in (flat_design text)
