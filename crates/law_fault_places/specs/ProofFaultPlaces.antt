-- The numbers and places of the first faults of splits and of uses.
use Rattle.std.specs.Prelude.{ℕ, List, [], ◌∷◌, IfSome}
use Rattle.smv_core.specs.declared.flat.Design.{Design}
use Rattle.law_splits.specs.SplitFaults.{first_fault_of_splits}
use Rattle.law_uses.specs.UseFaults.{first_fault_of_uses}
use Rattle.law_fault_places.specs.FaultPlaces.{IsFaultOf}
use Rattle.law_fault_places.specs.FlatPlaces.{DesignIsWithin}

-- the numbers of splits
abbrev pub numbers_of_splits : List ℕ
numbers_of_splits = 23 ∷ 24 ∷ []

abbrev pub SplitFaultsAreWithin : Type 0
SplitFaultsAreWithin = (n : ℕ) (d : Design) → DesignIsWithin n d → IfSome (first_fault_of_splits d) (IsFaultOf numbers_of_splits n)

-- those of uses
abbrev pub numbers_of_uses : List ℕ
numbers_of_uses = 26 ∷ 27 ∷ 28 ∷ []

abbrev pub UseFaultsAreWithin : Type 0
UseFaultsAreWithin = (n : ℕ) (d : Design) → DesignIsWithin n d → IfSome (first_fault_of_uses d) (IsFaultOf numbers_of_uses n)
