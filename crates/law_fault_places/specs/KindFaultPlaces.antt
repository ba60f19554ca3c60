-- The numbers and places of the first fault of kinds, ranges and sets.
use Rattle.std.specs.Prelude.{ℕ, List, [], ◌∷◌, IfSome}
use Rattle.smv_core.specs.declared.tree.Text.{Text}
use Rattle.law_designs.specs.KindFaults.{first_fault_of_kinds}
use Rattle.law_fault_places.specs.TreePlaces.{TextIsWithin}
use Rattle.law_fault_places.specs.FaultPlaces.{IsFaultOf}

-- the numbers of this pass
abbrev pub numbers_of_kinds : List ℕ
numbers_of_kinds = 12 ∷ 13 ∷ 14 ∷ []

abbrev pub KindFaultsAreWithin : Type 0
KindFaultsAreWithin = (n : ℕ) (text : Text) → TextIsWithin n text → IfSome (first_fault_of_kinds text) (IsFaultOf numbers_of_kinds n)
