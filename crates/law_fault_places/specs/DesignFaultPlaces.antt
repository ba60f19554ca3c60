-- The numbers and places of the first faults of single assignment, of loops and layers, and of set types.
use Rattle.std.specs.Prelude.{ℕ, List, [], ◌∷◌, IfSome}
use Rattle.smv_core.specs.declared.flat.FlatText.{FlatText}
use Rattle.smv_core.specs.declared.flat.Design.{Design}
use Rattle.law_designs.specs.SingleFaults.{first_fault_of_single}
use Rattle.law_designs.specs.FirstFault.{first_fault_of_design}
use Rattle.law_designs.specs.SetFaults.{first_fault_of_sets}
use Rattle.law_fault_places.specs.FaultPlaces.{IsFaultOf}
use Rattle.law_fault_places.specs.FlatPlaces.{FlatTextIsWithin, DesignIsWithin}

-- the numbers of single assignment
abbrev pub numbers_of_single : List ℕ
numbers_of_single = 15 ∷ 16 ∷ 17 ∷ []

abbrev pub SingleFaultsAreWithin : Type 0
SingleFaultsAreWithin = (n : ℕ) (flat_text : FlatText) → FlatTextIsWithin n flat_text → IfSome (first_fault_of_single flat_text) (IsFaultOf numbers_of_single n)

-- those of loops and layers
abbrev pub numbers_of_designs : List ℕ
numbers_of_designs = 18 ∷ 19 ∷ 20 ∷ []

abbrev pub DesignFaultsAreWithin : Type 0
DesignFaultsAreWithin = (n : ℕ) (d : Design) → DesignIsWithin n d → IfSome (first_fault_of_design d) (IsFaultOf numbers_of_designs n)

-- those of set types
abbrev pub numbers_of_sets : List ℕ
numbers_of_sets = 21 ∷ 22 ∷ []

abbrev pub SetFaultsAreWithin : Type 0
SetFaultsAreWithin = (n : ℕ) (flat_text : FlatText) → FlatTextIsWithin n flat_text → IfSome (first_fault_of_sets flat_text) (IsFaultOf numbers_of_sets n)
