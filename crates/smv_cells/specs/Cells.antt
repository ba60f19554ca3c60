-- What the kept elements of a case may be, and what a read of an element finds.
use Rattle.std.specs.Prelude.{ℕ, List, [], ◌∷◌, map, Some, Bool, ◌&&◌, if◌then◌else◌, nat_eq}
use Rattle.std.specs.List.{list_any}
use Rattle.smv_core.specs.FlatMeaning.{Numbered}
use Rattle.law_obligations.specs.Places.{Place, AbsOutcome}
use Rattle.law_obligations.specs.Cones.{same_places}
use Rattle.smv_spots.specs.Spots.{place_in}
use Rattle.smv_conditions.specs.Offers.{any_offer, AreOffersMade}
use Rattle.smv_cells.specs.declared.cells.Cell.{Cell}

-- a cell is that of the element of a family at these places
abbrev pub is_cell_of : {C : Type 0} → Numbered → ℕ → List Place → Cell C → Bool
is_cell_of n family ps cell = nat_eq cell.family family && same_places (map (place_in n) cell.indexes) ps

abbrev pub AreCellsMade : {C : Type 0} → (C → Type 0) → List (Cell C) → Type 0
AreCellsMade IsMade [] = Unit {0}
AreCellsMade IsMade (c ∷ cs) = AreOffersMade IsMade c.values × AreCellsMade IsMade cs

-- a test of what the element at these places may be: the values of its cell, or every place of its type where it has none
unfoldable pub cell_any : {S C : Type 0} → Numbered → (S → C → (ℕ → Bool) → Bool) → S → (ℕ → Bool) → (AbsOutcome → Bool) → ℕ → List Place → List Place → List (Cell C) → Bool
cell_any n holds s a p family ps every [] = list_any (λ q. p (Some q)) every
cell_any n holds s a p family ps every (c ∷ cs) = if is_cell_of n family ps c then any_offer n holds s a p c.values else cell_any n holds s a p family ps every cs
