-- An element whose values are tested, of which one passes alone, is determined, and its cell is right.
use Rattle.std.proofs.Common.{◌≡◌, ℕ, ◌+◌, ◌*◌, ◌/◌, List, [], ◌∷◌, ◌++◌, map, Bool, true, false, not, ◌&&◌, ◌||◌, refl, sym, ap, subst, ◌∙◌, Some, None, arith}
use Rattle.std.specs.List.{list_any, slice_get}
use Rattle.law_lists.proofs.Booleans.{either_right, not_left}
use Rattle.law_obligations.specs.Sets.{Has, first}
use Rattle.law_obligations.specs.Places.{Place, AbsOutcome}
use Rattle.law_obligations.specs.May.{AbsState}
use Rattle.law_obligations.specs.Bits.{Bits}
use Rattle.smv_core.specs.declared.flat.Element.{Element}
use Rattle.law_obligations.specs.Soundness.{over_of}
use Rattle.law_obligations.specs.Cones.{AbsElement, element, same_element}
use Rattle.law_obligations.specs.Readings.{PosedCase, values_of}
use Rattle.law_obligations.proofs.ConeFacts.{same_element-itself, same_element-family, same_element-indexes}
use Rattle.law_obligations.proofs.Members.{Has-right, any-found, one_of_one}
use Rattle.law_arrangements.specs.Arrangements.{put, view}
use Rattle.law_arrangements.proofs.Views.{each_right}
use Rattle.law_wires.specs.Tries.{PassesOnce, trying, keeping, meets_with, AreDetermined, IsTry, ReadsDone, KeepsBeside}
use Rattle.law_wires.proofs.Tried.{all_determined, has_value}
use Rattle.bdd_store.specs.declared.Ref.{Ref}
use Rattle.bdd_store.specs.Diagram.{Diagram, table}
use Rattle.bdd_codes.specs.Codes.{bits_at}
use Rattle.smv_conditions.specs.declared.offers.Offer.{Offer}
use Rattle.smv_conditions.specs.Offers.{any_offer}
use Rattle.smv_problem.specs.declared.problem.Problem.{Problem}
use Rattle.smv_problem.specs.Written.{written, written_element}
use Rattle.smv_problem.specs.WellFormed.{IsWellFormed}
use Rattle.smv_typed_spots.specs.TypedSpots.{class_spots}
use Rattle.smv_spots.specs.declared.spots.Spot.{Spot}
use Rattle.smv_encode.specs.Parts.{AreElements}
use Rattle.smv_encode.proofs.Adds.{one_element}
use Rattle.smv_encode.proofs.CodedCells.{placed_indexes}
use Rattle.smv_cells.specs.declared.cells.Cell.{Cell}
use Rattle.smv_cells.specs.Seen.{IsSeen}
use Rattle.smv_walks.specs.Demands.{view_of, AreRead}
use Rattle.smv_wires.specs.Wired.{kept_beside, kept_with, state_beside, view_beside, meets_at, whens, AreTests, HoldsAlone}
use Rattle.smv_wires.proofs.Facts.{keeps_named, have_values, filled_view, values_with}
use Rattle.smv_wires.proofs.Seeing.{IsCellOf, seen_more}
use Rattle.smv_wires.proofs.Tests.{passes_once, value_offered}

-- ---- each reading of places is that of an assignment

abbrev spread_out : Bits → ℕ → Bool
spread_out s v = s (v / 2)

read_back : (next : Bool) (s : Bits) → bits_at next (spread_out s) ≡ s
read_back false s = λ i p. s (even p i)
  where
    even : (p : ℕ) → (2 * p) / 2 ≡ p
    even p = omega arith
read_back true s = λ i p. s (odd p i)
  where
    odd : (p : ℕ) → (2 * p + 1) / 2 ≡ p
    odd p = omega arith

-- ---- tests

and_false : (b : Bool) → b && false ≡ false
and_false true = refl
and_false false = refl

kept_alone : (b : Bool) → (b && true) || false ≡ b
kept_alone true = refl
kept_alone false = refl

or_true : (b : Bool) → b || true ≡ true
or_true true = refl
or_true false = refl

beside_more : (k s t : Bool) → (s ≡ true → (k ≡ true) × (t ≡ false)) → k && not t ≡ (k && not (s || t)) || s
beside_more k true t h = ap (λ (b : Bool). b && not t) (h refl).0 ∙ (ap not (h refl).1 ∙ sym (or_true (k && false)))
beside_more true false true h = refl
beside_more true false false h = refl
beside_more false false t h = refl

-- the first of those tried
pub first_element : (c : PosedCase) (order : List ℕ) (done : List AbsElement) (x : AbsElement) (left : List AbsElement) → IsTry c order done x left → (tried others : List Element) (x' : Element) → tried ≡ x' ∷ others → tried ≡ map written_element (x ∷ left) → AreElements c (x ∷ []) (x' ∷ [])
first_element c order done x left try tried others x' e f = record {
  written = ap (λ (y : Element). y ∷ []) (heads (sym e ∙ f));
  among = λ y h. subst (Has c.elements) (sym (one_of_one h)) (try.are_elements x (Has-right done first));
}
  where
    heads : {y z : Element} {ys zs : List Element} → y ∷ ys ≡ z ∷ zs → y ≡ z
    heads e = cc

-- a cell that is made for an element
pub cell_of : (p : Problem) (c : PosedCase) → p ≡ written c → IsWellFormed c → (x : AbsElement) (x' : Element) → AreElements c (x ∷ []) (x' ∷ []) → (indexes : List Spot) → indexes ≡ class_spots (over_of (slice_get p.families x'.family)) x'.indexes → (values : List (Offer Ref))
    → IsCellOf c.problem.world x (record { family = x'.family; indexes = indexes; values = values })
cell_of p c is well x x' h indexes at values = record {
  family = ap (λ (y : Element). y.family) (one_element c x x' h);
  indexes = placed_indexes p c is well x x' (h.among x first) (one_element c x x' h) indexes at;
}

module _ (p : Problem) (c : PosedCase) (well : IsWellFormed c) (order : List ℕ) (done : List AbsElement) (x : AbsElement) (left : List AbsElement) (try : IsTry c order done x left) (next : Bool) where
  among : Has c.elements x
  among = try.are_elements x (Has-right done first)

  -- ---- what is kept

  pub kept_not : kept_beside c (x ∷ left) x.family x.indexes ≡ false
  kept_not = ap (λ (b : Bool). c.problem.kept x.family x.indexes && not (b || list_any (same_element (element x.family x.indexes)) left)) (same_element-itself x) ∙ and_false (c.problem.kept x.family x.indexes)

  pub has_kept : kept_with c x left x.family x.indexes ≡ true
  has_kept = either_right (kept_beside c (x ∷ left) x.family x.indexes) (same_element-itself x)

  keeps_beside : KeepsBeside c (x ∷ left) (kept_with c x left)
  keeps_beside family ps e =
      ap (λ (b : Bool). (c.problem.kept family ps && not b) || same_element (element family ps) x) e
      ∙ (ap (λ (b : Bool). (c.problem.kept family ps && true) || b) (not_left (same_element (element family ps) x) (list_any (same_element (element family ps)) left) e) ∙ kept_alone (c.problem.kept family ps))

  pub kept_after : (family : ℕ) (ps : List Place) → kept_beside c left family ps ≡ (kept_beside c (x ∷ left) family ps || same_element (element family ps) x)
  kept_after family ps = beside_more (c.problem.kept family ps) (same_element (element family ps) x) (list_any (same_element (element family ps)) left) own
    where
      own : same_element (element family ps) x ≡ true → (c.problem.kept family ps ≡ true) × (list_any (same_element (element family ps)) left ≡ false)
      own e = (
        ap (λ (keeps : ℕ → List Place → Bool). keeps family ps) well.is_case.are_kept ∙ any-found (same_element (element family ps)) among e,
        ap (λ (n : ℕ). list_any (same_element (element n ps)) left) (same_element-family (element family ps) x e)
            ∙ (ap (λ (qs : List Place). list_any (same_element (element x.family qs)) left) (same_element-indexes (element family ps) x e)
            ∙ (each_right (λ behind y. list_any (same_element y) behind ≡ false) done (x ∷ left) try.are_apart).0),
      )

  -- ---- a value of its own

  pub read_with : (d : Diagram) (cells : List (Cell Ref)) (cell : Cell Ref) (v : Place) → IsCellOf c.problem.world x cell → ((a : ℕ → Bool) (q : AbsOutcome → Bool) → any_offer c.problem.world.classes table d a q cell.values ≡ q (Some v)) → Has (values_of c.problem.world x) v
      → IsSeen table d p cells (view_beside c order done (x ∷ left) next) → AreRead table d p None (cells ++ cell ∷ []) (keeping c (kept_with c x left)) None (λ a. put x v (state_beside c order done (x ∷ left) next a))
  unfolding view_of
  read_with d cells cell v of values has seen = record {
    now = seen_more d p c.problem.world (kept_beside c (x ∷ left)) (kept_with c x left) (state_beside c order done (x ∷ left) next) (λ a. v) x cells cell (filled_view c well (kept_with c x left) (λ a. put x v (state_beside c order done (x ∷ left) next a))) of kept_not
        (λ family ps. refl) values seen;
    values = values_with c well order done x left try next v has;
    before = tt;
  }

  -- ---- the value that it has

  module _ (d : Diagram) (offers : List (Offer Ref)) (tests : (a : ℕ → Bool) → AreTests c.problem.world.classes d a (meets_at c order done x left next a) (values_of c.problem.world x) offers)
      (alone : (a : ℕ → Bool) → HoldsAlone false (whens d a offers)) where
    once_at : (a : ℕ → Bool) → PassesOnce (meets_at c order done x left next a) (values_of c.problem.world x)
    once_at a = passes_once (meets_at c order done x left next a) (values_of c.problem.world x) (whens d a offers) (tests a).conditions (alone a)

    once : (s : Bits) → PassesOnce (meets_with c (kept_with c x left) (view c (trying order done (x ∷ left)) s) x) (values_of c.problem.world x)
    once s = subst (λ (t : Bits). PassesOnce (meets_with c (kept_with c x left) (view c (trying order done (x ∷ left)) t) x) (values_of c.problem.world x)) (read_back next s) (once_at (spread_out s))

    module _ (reads : ReadsDone c x left) where
      pub wire_determined : AreDetermined c (done ++ x ∷ []) left
      wire_determined = all_determined c well.is_case (keeps_named c well) (have_values c well) order done x left try reads (kept_with c x left) keeps_beside once

      pub wire_seen : (cells : List (Cell Ref)) (cell : Cell Ref) → IsCellOf c.problem.world x cell → cell.values ≡ offers → IsSeen table d p cells (view_beside c order done (x ∷ left) next) → IsSeen table d p (cells ++ cell ∷ []) (view_beside c order (done ++ x ∷ []) left next)
      wire_seen cells cell of are seen =
          subst (λ (state : (ℕ → Bool) → AbsState). IsSeen table d p (cells ++ cell ∷ []) (record { world = c.problem.world; kept = kept_beside c left; state = state })) (λ i a. sym (valued a) i)
          (seen_more d p c.problem.world (kept_beside c (x ∷ left)) (kept_beside c left) (state_beside c order done (x ∷ left) next) value x cells cell (filled_view c well (kept_beside c left) (λ a. put x (value a) (state_beside c order done (x ∷ left) next a))) of kept_not kept_after
          (λ a q. ap (any_offer c.problem.world.classes table d a q) are ∙ value_offered c.problem.world.classes d a (meets_at c order done x left next a) (values_of c.problem.world x) offers (tests a) (value a) (once_at a).1 q) seen)
        where
          value : (ℕ → Bool) → Place
          value a = (once_at a).0

          valued : (a : ℕ → Bool) → state_beside c order (done ++ x ∷ []) left next a ≡ put x (value a) (state_beside c order done (x ∷ left) next a)
          valued a = has_value c well.is_case (keeps_named c well) (have_values c well) order done x left try reads (kept_with c x left) keeps_beside (bits_at next a) (value a) (once_at a).1
