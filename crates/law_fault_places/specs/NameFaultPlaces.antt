-- The numbers and places of the first fault of names and size.
use Rattle.std.specs.Prelude.{ℕ, List, [], ◌∷◌, IfSome}
use Rattle.smv_core.specs.declared.tree.Text.{Text}
use Rattle.smv_mentions.specs.FirstFault.{first_fault}
use Rattle.law_fault_places.specs.TreePlaces.{TextIsWithin}
use Rattle.law_fault_places.specs.FaultPlaces.{IsFaultOf}

-- the numbers of this pass
abbrev pub numbers_of_names : List ℕ
numbers_of_names = 7 ∷ 8 ∷ 9 ∷ 10 ∷ 11 ∷ 25 ∷ []

abbrev pub NameFaultsAreWithin : Type 0
NameFaultsAreWithin = (n : ℕ) (text : Text) → TextIsWithin n text → IfSome (first_fault text) (IsFaultOf numbers_of_names n)
