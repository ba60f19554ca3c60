-- Assignments as the program holds them.
use Rattle.std.specs.Prelude.{ℕ, List, [], ◌∷◌, ◌++◌, flat_map, Bool}
use Rattle.smv_core.specs.declared.flat.FlatItem.{FlatItem}
use Rattle.smv_core.specs.declared.flat.FlatItem.TheVariants as item
use Rattle.law_designs.specs.Standing.{Standing, standing}
use Rattle.law_designs.specs.SingleFaults.{conflicts, later_places}
use Rattle.smv_single_assignment.specs.declared.assignments.Assignment.{Assignment}

-- the assignment that is held
abbrev pub standing_of : Assignment → Standing
standing_of a = record { layer = a.layer; kind = a.kind; family = a.family; left = a.left.now; around = a.around.items; at = a.at }

-- the assignments of an item
abbrev pub assigned_of : FlatItem → List Standing
assigned_of (item.Act layer act) = standing layer [] act
assigned_of _ = []

-- the places of conflicts inside an item
abbrev pub conflicts_of : FlatItem → List ℕ
conflicts_of (item.Act layer act) = conflicts layer [] act
conflicts_of _ = []

-- the places of clashes inside the parts of a list and between them
module _ {A : Type 0} (clash : Standing → Standing → Bool) (inside : A → List ℕ) (assigned : A → List Standing) where
  abbrev pub among : List A → List ℕ
  among [] = []
  among (x ∷ xs) = inside x ++ among xs ++ later_places clash (assigned x) (flat_map assigned xs)
