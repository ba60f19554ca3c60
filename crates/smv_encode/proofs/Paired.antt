-- Of values of which each has the function "the code is read as this one", exactly that of the code is possible.
use Rattle.std.proofs.Common.{◌≡◌, ℕ, zero, suc, ◌+◌, ◌-◌, ◌<◌, ◌≤◌, List, [], ◌∷◌, ◌++◌, map, length, drop, get_or, min, append_assoc, Bool, true, false, ◌&&◌, ◌||◌, nat_eq, refl, sym, ap, ◌∙◌, Some, arith}
use Rattle.std.proofs.lemmas.Bool.Decides.{nat_tests}
use Rattle.std.proofs.lemmas.List.{append-nil}
use Rattle.std.proofs.Math.ListN.{get_or-map}
use Rattle.std.proofs.Math.Seq.{drop-cons}
use Rattle.law_lists.proofs.Lists.{length_map}
use Rattle.smv_core.specs.Values.{number}
use Rattle.smv_core.specs.FlatMeaning.{Numbered}
use Rattle.law_obligations.specs.Places.{Place, named, AbsOutcome}
use Rattle.law_obligations.specs.Codes.{value_of_code}
use Rattle.smv_spots.specs.declared.spots.Spot.{Spot}
use Rattle.smv_spots.specs.declared.spots.Spot.TheVariants.{Number}
use Rattle.smv_spots.specs.Spots.{place_in}
use Rattle.bdd_store.specs.declared.Ref.{Ref}
use Rattle.bdd_store.specs.Diagram.{Diagram, IsLive, AreLive, table, ref_at}
use Rattle.smv_conditions.specs.declared.offers.Offer.{Offer}
use Rattle.smv_conditions.specs.Offers.{any_offer, AreOffersMade}
use Rattle.smv_encode.specs.Coded.{paired}

-- the value of a code, by its place
pub value_placed : (ps : List Place) (code : ℕ) → 0 < length ps → value_of_code ps code ≡ get_or ps (min code (length ps - 1)) (named (number 0))
value_placed [] code lt = absurd (omega arith)
value_placed (p ∷ []) code lt = let none : 0 ≡ min code (length (p ∷ []) - 1) = grind (arith, nat_tests) in ap (λ (k : ℕ). get_or (p ∷ []) k (named (number 0))) none
value_placed (p ∷ q ∷ ps) zero lt = let none : 0 ≡ min 0 (length (p ∷ q ∷ ps) - 1) = grind (arith, nat_tests) in ap (λ (k : ℕ). get_or (p ∷ q ∷ ps) k (named (number 0))) none
value_placed (p ∷ q ∷ ps) (suc code) lt =
    let one : suc (min code (length (q ∷ ps) - 1)) ≡ min (suc code) (length (p ∷ q ∷ ps) - 1) = grind (arith, nat_tests) in
    value_placed (q ∷ ps) code (omega arith) ∙ ap (λ (k : ℕ). get_or (p ∷ q ∷ ps) k (named (number 0))) one

false-or : (b x y : Bool) → b ≡ false → ((b && x) || y) ≡ y
false-or b x y e = ap (λ (z : Bool). (z && x) || y) e

true-or : (b x y : Bool) → b ≡ true → y ≡ false → ((b && x) || y) ≡ x
true-or b true y e f = ap (λ (z : Bool). (z && true) || y) e
true-or b false y e f = ap (λ (z : Bool). (z && false) || y) e ∙ f

module _ (n : Numbered) (d : Diagram) (a : ℕ → Bool) (p : AbsOutcome → Bool) where
  none_paired : (ps : List Spot) (rs : List Ref) → ((k : ℕ) → k < length rs → table d (ref_at rs k) a ≡ false) → any_offer n table d a p (paired ps rs) ≡ false
  unfolding any_offer
  none_paired [] rs none = refl
  none_paired (q ∷ ps) [] none = refl
  none_paired (q ∷ ps) (r ∷ rs) none =
      false-or (table d r a) (p (Some (place_in n q))) (any_offer n table d a p (paired ps rs)) (none 0 (omega arith)) ∙ none_paired ps rs (λ k lt. none (suc k) (omega arith))

  any_paired : (ps : List Spot) (rs : List Ref) (m : ℕ) → length rs ≡ length ps → m < length ps → ((k : ℕ) → k < length rs → table d (ref_at rs k) a ≡ nat_eq m k) → any_offer n table d a p (paired ps rs) ≡ p (Some (place_in n (get_or ps m (Number 0))))
  unfolding any_offer
  any_paired [] rs m same lt each = absurd (omega arith)
  any_paired (q ∷ ps) [] m same lt each = absurd (omega arith)
  any_paired (q ∷ ps) (r ∷ rs) zero same lt each =
      true-or (table d r a) (p (Some (place_in n q))) (any_offer n table d a p (paired ps rs)) (each 0 (omega arith) ∙ grind (arith, nat_tests))
      (none_paired ps rs (λ k below. each (suc k) (omega arith) ∙ apart k))
    where
      apart : (k : ℕ) → nat_eq 0 (suc k) ≡ false
      apart k = grind (arith, nat_tests)
  any_paired (q ∷ ps) (r ∷ rs) (suc m) same lt each =
      false-or (table d r a) (p (Some (place_in n q))) (any_offer n table d a p (paired ps rs)) (each 0 (omega arith) ∙ apart m)
      ∙ any_paired ps rs m (omega arith) (omega arith) (λ k below. each (suc k) (omega arith) ∙ less m k)
    where
      apart : (k : ℕ) → nat_eq (suc k) 0 ≡ false
      apart k = grind (arith, nat_tests)

      less : (m k : ℕ) → nat_eq (suc m) (suc k) ≡ nat_eq m k
      less m k = grind (arith, nat_tests)

  -- the value of the code
  pub coded_value : (places : List Place) (spots : List Spot) (rs : List Ref) (code : ℕ) → map (place_in n) spots ≡ places → length rs ≡ length spots → 0 < length spots
      → ((k : ℕ) → k < length rs → table d (ref_at rs k) a ≡ nat_eq (min code (length rs - 1)) k) → any_offer n table d a p (paired spots rs) ≡ p (Some (value_of_code places code))
  coded_value places spots rs code are same some each =
      let long : length places ≡ length spots = ap (λ (ps : List Place). length ps) (sym are) ∙ length_map (place_in n) spots in
      let last : min code (length rs - 1) ≡ min code (length places - 1) = ap (λ (k : ℕ). min code (k - 1)) (same ∙ sym long) in
      let m : ℕ = min code (length rs - 1) in
      let within : min code (length rs - 1) < length spots = small code (length rs) (length spots) same some in
      any_paired spots rs m same within each
      ∙ ap (λ (q : Place). p (Some q)) (
      sym (get_or-map (place_in n) spots m (Number 0))
      ∙ ap (λ (ps : List Place). get_or ps m (named (number 0))) are
      ∙ ap (λ (k : ℕ). get_or places k (named (number 0))) last
      ∙ sym (value_placed places code (omega (arith, long, some)))
      )
    where
      small : (c r s : ℕ) → r ≡ s → 0 < s → min c (r - 1) < s
      small c r s e lt = grind (arith, nat_tests)

-- the values are made where their conditions are
pub paired_made : (d : Diagram) (spots : List Spot) (rs : List Ref) → AreLive d rs → AreOffersMade (IsLive d) (paired spots rs)
paired_made d [] rs live = tt
paired_made d (p ∷ ps) [] live = tt
paired_made d (p ∷ ps) (r ∷ rs) live = (live 0 (omega arith), paired_made d ps rs (λ i lt. live (suc i) (omega arith)))

-- one value more
pub pair_next : (spots : List Spot) (rs : List Ref) (i : ℕ) (p : Spot) (r : Ref) → length rs ≡ length spots → i < length spots → p ≡ get_or spots i p → r ≡ get_or rs i r
    → paired (drop i spots) (drop i rs) ≡ record { outcome = Some p; when = r } ∷ paired (drop (i + 1) spots) (drop (i + 1) rs)
pair_next spots rs i p r same lt here there =
    let one : suc i ≡ i + 1 = omega arith in
    ap (λ (ps : List Spot). paired ps (drop i rs)) (drop-cons spots i p lt ∙ ap (λ (q : Spot). q ∷ drop (suc i) spots) (sym here))
    ∙ ap (λ (qs : List Ref). paired (p ∷ drop (suc i) spots) qs) (drop-cons rs i r (omega arith) ∙ ap (λ (q : Ref). q ∷ drop (suc i) rs) (sym there))
    ∙ ap (λ (j : ℕ). record { outcome = Some p; when = r } ∷ paired (drop j spots) (drop j rs)) one

pub pairs_grow : (spots : List Spot) (rs : List Ref) (offers more : List (Offer Ref)) (i : ℕ) (p : Spot) (r : Ref) → length rs ≡ length spots → i < length spots → p ≡ get_or spots i p → r ≡ get_or rs i r
    → offers ++ paired (drop i spots) (drop i rs) ≡ paired spots rs → more ≡ offers ++ record { outcome = Some p; when = r } ∷ [] → more ++ paired (drop (i + 1) spots) (drop (i + 1) rs) ≡ paired spots rs
pairs_grow spots rs offers more i p r same lt here there before pushed =
    ap (λ (os : List (Offer Ref)). os ++ paired (drop (i + 1) spots) (drop (i + 1) rs)) pushed
    ∙ append_assoc offers (record { outcome = Some p; when = r } ∷ []) (paired (drop (i + 1) spots) (drop (i + 1) rs))
    ∙ ap (λ (os : List (Offer Ref)). offers ++ os) (sym (pair_next spots rs i p r same lt here there))
    ∙ before

none_left : (spots : List Spot) (rs : List Ref) (i : ℕ) → length spots ≤ i → paired (drop i spots) rs ≡ []
none_left [] rs zero le = refl
none_left [] rs (suc i) le = refl
none_left (p ∷ spots) rs zero le = absurd (omega arith)
none_left (p ∷ spots) rs (suc i) le = none_left spots rs i (omega arith)

pub pairs_end : (spots : List Spot) (rs : List Ref) (offers : List (Offer Ref)) (i : ℕ) → length spots ≤ i → offers ++ paired (drop i spots) (drop i rs) ≡ paired spots rs → offers ≡ paired spots rs
pairs_end spots rs offers i le before = sym (append-nil offers) ∙ ap (λ (os : List (Offer Ref)). offers ++ os) (sym (none_left spots (drop i rs) i le)) ∙ before
