-- What a read of an element finds, where each index may have several outcomes.
use Rattle.std.specs.Prelude.{ℕ, List, [], ◌∷◌, ◌++◌, Option, Some, None, Bool}
use Rattle.smv_core.specs.declared.flat.Simple.{Simple}
use Rattle.smv_core.specs.declared.flat.Family.{Family}
use Rattle.law_obligations.specs.Places.{Place, World, AbsOutcome, places_in}
use Rattle.law_obligations.specs.May.{place_within}
use Rattle.law_obligations.specs.ReadOutcomes.{where_within}
use Rattle.smv_conditions.specs.declared.offers.Offer.{Offer}
use Rattle.smv_conditions.specs.Offers.{any_offer}
use Rattle.smv_cells.specs.declared.cells.Cell.{Cell}
use Rattle.smv_cells.specs.Cells.{cell_any}

module _ {S C : Type 0} (w : World) (holds : S → C → (ℕ → Bool) → Bool) (s : S) (a : ℕ → Bool) (p : AbsOutcome → Bool) (family : ℕ) (every : List Place) (cells : List (Cell C)) where
  -- a test of the element behind these places, index by index; where an index is outside its type it is Undefined
  unfoldable pub read_any : List Place → List Simple → List (List (Offer C)) → Bool
  read_any ps [] uss = cell_any w.classes holds s a p family ps every cells
  read_any ps (t ∷ over) [] = cell_any w.classes holds s a p family ps every cells
  read_any ps (t ∷ over) (us ∷ uss) = any_offer w.classes holds s a (λ u. where_within (p None) (λ q. read_any (ps ++ q ∷ []) over uss) (place_within (places_in w t) u)) us

  -- with the next index at a place, or outside its type
  unfoldable pub read_inside : List Place → AbsOutcome → List Simple → List (List (Offer C)) → Bool
  read_inside ps at over uss = where_within (p None) (λ q. read_any (ps ++ q ∷ []) over uss) at

  -- with the next index at one of these outcomes
  unfoldable pub read_along : List Place → Simple → List (Offer C) → List Simple → List (List (Offer C)) → Bool
  read_along ps t us over uss = any_offer w.classes holds s a (λ u. read_inside ps (place_within (places_in w t) u) over uss) us

-- a test of an element of a family, if there is one, at outcomes of its indexes
unfoldable pub element_any : {S C : Type 0} → World → (S → C → (ℕ → Bool) → Bool) → S → (ℕ → Bool) → (AbsOutcome → Bool) → ℕ → List (Cell C) → Option Family → List (List (Offer C)) → Bool
element_any w holds s a p family cells None uss = p None
element_any w holds s a p family cells (Some f) uss = read_any w holds s a p family (places_in w f.value) cells [] f.over uss
