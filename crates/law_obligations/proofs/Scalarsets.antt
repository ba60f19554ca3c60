-- The values of a scalarset: classes by distinct values, and a rest.
use Rattle.std.proofs.Common.{◌≡◌, ℕ, zero, suc, ◌<◌, List, [], ◌∷◌, ◌++◌, map, length, get_or, Bool, true, false, if◌then◌else◌, refl, sym, ap, subst, ◌∙◌, inl, inr, arith, nat_eq, Option, Some, None, option_map}
use Rattle.std.proofs.lemmas.Slice.Eq.{bytes_eq-Decides}
use Rattle.std.proofs.lemmas.Bool.{cases_Bool}
use Rattle.law_lists.proofs.Numbers.{nat_eq-is}
use Rattle.smv_core.specs.Values.{Name, scalar, ordinal, scalarset, Sizes, numbers_from, same}
use Rattle.smv_core.specs.declared.abstract_type.Rest.{Rest}
use Rattle.smv_core.specs.declared.abstract_type.Rest.TheVariants as beside
use Rattle.law_obligations.specs.Sets.{Has, first}
use Rattle.law_obligations.specs.Places.{World, rests_beside}
use Rattle.law_obligations.specs.Pictures.{class, other, Placing, at_spot, placed, IsPlaced}
use Rattle.law_obligations.specs.Placings.{place_in, or_rest, spot_by, AreDistinct, AreBelow, HasRoom}
use Rattle.law_obligations.proofs.Members.{Has-left, Has-right, Has-map}
use Rattle.law_obligations.proofs.Same.{nat_eq-itself}
use Rattle.law_obligations.proofs.Facts.{unordered}
use Rattle.law_obligations.proofs.Spots.{Has-numbers, AreSpotted, is_somewhere, class_has_value, class_has_one, equality, order}

-- a value that was found is at its place
pub found : (v : ℕ) (xs : List ℕ) (c : ℕ) → place_in v xs ≡ Some c → (c < length xs) × (get_or xs c 0 ≡ v)
found v [] c e = absurd (cc)
found v (x ∷ xs) c e = at (nat_eq v x) refl (place_in v xs) (λ d f. found v xs d f) refl c e
  where
    at : (b : Bool) → nat_eq v x ≡ b → (o : Option ℕ) → ((d : ℕ) → place_in v xs ≡ Some d → (d < length xs) × (get_or xs d 0 ≡ v)) → place_in v xs ≡ o →
        (c : ℕ) → (if b then Some 0 else option_map (λ c. suc c) o) ≡ Some c → (c < length (x ∷ xs)) × (get_or (x ∷ xs) c 0 ≡ v)
    at true i o goes p zero e = (omega arith, sym (nat_eq-is v x i))
    at true i o goes p (suc c) e = absurd (cc)
    at false i None goes p c e = absurd (cc)
    at false i (Some d) goes p zero e = absurd (cc)
    at false i (Some d) goes p (suc c) e = let same : d ≡ c = cc in let r = goes d p in (let r0 = r.0 in omega (arith, same), subst (λ z. get_or xs z 0 ≡ v) same r.1)

-- in a list of distinct values each is found at its own place
own_place : (xs : List ℕ) (c : ℕ) → AreDistinct xs → c < length xs → place_in (get_or xs c 0) xs ≡ Some c
own_place [] c d l = absurd (omega arith)
own_place (x ∷ xs) zero d l = rw (nat_eq-itself x) refl
own_place (x ∷ xs) (suc c) d l = let ih = own_place xs c d.1 (omega arith) in
    elim (cases_Bool (nat_eq (get_or xs c 0) x)) [
      | inl e ↦ let same : get_or xs c 0 ≡ x = nat_eq-is _ _ e in let again : place_in x xs ≡ Some c = subst (λ z. place_in z xs ≡ Some c) same ih in absurd (clash again d.0)
      | inr e ↦ rw e (ap (option_map (λ c. suc c)) ih)
    ]
  where
    clash : {o : Option ℕ} {c : ℕ} → o ≡ Some c → o ≡ None → ⊥
    clash p q = cc

below_at : (size : ℕ) (xs : List ℕ) (c : ℕ) → AreBelow size xs → c < length xs → get_or xs c 0 < size
below_at size [] c h l = absurd (omega arith)
below_at size (x ∷ xs) zero h l = h.0
below_at size (x ∷ xs) (suc c) h l = below_at size xs c h.1 (omega arith)

spot_is : (r : Rest) (size : ℕ) (values : List ℕ) → HasRoom r size values → (k : ℕ) → k < size → (o : Option ℕ) → place_in k values ≡ o →
    Has (map class (numbers_from 0 (length values)) ++ map other (rests_beside r (length values))) (or_rest o)
spot_is r size values room k l (Some c) p = let f = found k values c p in
    Has-left (map other (rests_beside r (length values))) (Has-map class (Has-numbers 0 (length values) c (omega arith) (let q = f.0 in omega (arith, q))))
spot_is beside.One size values room k l None p = Has-right (map class (numbers_from 0 (length values))) first
spot_is beside.None size values room k l None p = absurd (room k l p)
spot_is beside.Gaps size values room k l None p = absurd room

pub by_class : (k c : ℕ) (o : Option ℕ) → or_rest o ≡ class c → o ≡ Some c
by_class k c None e = absurd (cc)
by_class k c (Some d) e = let same : d ≡ c = cc in ap Some same

pub spotted_by : (r : Rest) (size : ℕ) (values : List ℕ) → AreDistinct values → AreBelow size values → HasRoom r size values →
    AreSpotted size (length values) (rests_beside r (length values)) (spot_by values)
spotted_by r size values distinct below room = record {
  somewhere = λ k l. spot_is r size values room k l (place_in k values) refl;
  has_value = λ c l. (get_or values c 0, below_at size values c below l, ap or_rest (own_place values c distinct l));
  has_one = λ k l c p q. sym (found k values c (by_class k c (place_in k values) p)).1 ∙ (found l values c (by_class l c (place_in l values) q)).1;
}

pub same_scalar : (t : Name) (k l : ℕ) → same (scalar t k) (scalar t l) ≡ nat_eq k l
same_scalar t k l = rw ((bytes_eq-Decides t t).1 refl) refl

pub same_ordinal : (t : Name) (k l : ℕ) → same (ordinal t k) (ordinal t l) ≡ nat_eq k l
same_ordinal t k l = rw ((bytes_eq-Decides t t).1 refl) refl

-- distinct values below the size place a scalarset
pub scalarset_is_placed : (sizes : Sizes) (w : World) (spots : Placing) (t : Name) (values : List ℕ) → AreDistinct values → AreBelow (sizes t) values → HasRoom (w.rests t) (sizes t) values →
    w.classes.sizes t ≡ length values → ((k : ℕ) → spots t k ≡ spot_by values k) → IsPlaced sizes w (placed spots) (scalarset t)
scalarset_is_placed sizes w spots t values distinct below room count same_spots =
    let facts : AreSpotted (sizes t) (w.classes.sizes t) (rests_beside (w.rests t) (w.classes.sizes t)) (spot_by values) =
    subst (λ m. AreSpotted (sizes t) m (rests_beside (w.rests t) m) (spot_by values)) (sym count) (spotted_by (w.rests t) (sizes t) values distinct below room) in
    let lies : (k : ℕ) → placed spots (scalar t k) ≡ at_spot (scalar t) (spot_by values k) = λ k. ap (at_spot (scalar t)) (same_spots k) in
    record {
      is_somewhere = is_somewhere (scalar t) (same_scalar t) (placed spots) (spot_by values) lies (sizes t) (w.classes.sizes t) (rests_beside (w.rests t) (w.classes.sizes t)) facts;
      class_has_value = class_has_value (scalar t) (same_scalar t) (placed spots) (spot_by values) lies (sizes t) (w.classes.sizes t) (rests_beside (w.rests t) (w.classes.sizes t)) facts;
      class_has_one = class_has_one (scalar t) (same_scalar t) (placed spots) (spot_by values) lies (sizes t) (w.classes.sizes t) (rests_beside (w.rests t) (w.classes.sizes t)) facts;
      equality = equality (scalar t) (same_scalar t) (placed spots) (spot_by values) lies (sizes t) (w.classes.sizes t) (rests_beside (w.rests t) (w.classes.sizes t)) facts;
      order = order (scalar t) (same_scalar t) (placed spots) (spot_by values) lies (sizes t) (w.classes.sizes t) (rests_beside (w.rests t) (w.classes.sizes t)) facts
          (λ k l hk hl. unordered (scalar t) (scalar t) (λ c d. refl) (λ c d. refl) (spot_by values k) (spot_by values l));
    }
