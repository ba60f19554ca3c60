-- Places of an ordset are in order but for a gap and itself.
use Rattle.std.proofs.Common.{◌≡◌, ℕ, List, [], ◌∷◌, map, Bool, true, false, not, ◌&&◌, if◌then◌else◌, refl, sym, ap, subst, ◌∙◌, ◌⊎◌, inl, inr, Option, Some, None, nat_eq, nat_lt}
use Rattle.std.specs.List.{slice_get}
use Rattle.std.specs.Str.{bytes_eq}
use Rattle.std.proofs.lemmas.Slice.Eq.{bytes_eq-Decides}
use Rattle.smv_core.specs.Values.{Name, Value, ordinal, Truth, same, below, not_of, numbers_from}
use Rattle.smv_core.specs.Values as values
use Rattle.smv_core.specs.FlatMeaning as flat
use Rattle.smv_core.specs.declared.flat.Simple.TheVariants.{Set}
use Rattle.smv_core.specs.declared.flat.SetInfo.{SetInfo}
use Rattle.law_obligations.specs.Sets.{Has}
use Rattle.law_obligations.specs.Places.{Place, named, rest, World, rests_beside, places_of, places_in, unsure, below_places}
use Rattle.law_obligations.proofs.Members.{Has-cases, Has-from_map}
use Rattle.law_lists.proofs.Numbers.{nat_eq-is}
use Rattle.law_obligations.proofs.Same.{nat_eq-itself}
use Rattle.law_problems.specs.ValueLaws.{IsKnown, IsEither, IsOneGap}

-- a class or a gap of an ordset of this name, by its number
abbrev IsClass : Name → Place → Type 0
IsClass t p = (k : ℕ) × (p ≡ named (ordinal t k))

abbrev IsGap : Name → Place → Type 0
IsGap t p = (g : ℕ) × (p ≡ rest (ordinal t g))

class_or_gap : (w : World) (set : ℕ) (info : SetInfo) → slice_get w.classes.sets set ≡ Some info → info.ordered ≡ true → (p : Place) → Has (places_in w (Set set)) p → IsClass info.name p ⊎ IsGap info.name p
class_or_gap w set info there ordered p h =
    by_order (subst (λ (b : Bool). Has (places_of w (if b then values.ordset info.name else values.scalarset info.name)) p) ordered (subst (λ (o : Option SetInfo). Has (places_of w (flat.set_type o)) p) there h))
  where
    by_order : Has (places_of w (values.ordset info.name)) p → IsClass info.name p ⊎ IsGap info.name p
    by_order h = elim (Has-cases (map named (map (ordinal info.name) (numbers_from 0 (w.classes.sizes info.name)))) (map (λ g. rest (ordinal info.name g)) (rests_beside (w.rests info.name) (w.classes.sizes info.name))) h) [
      | inl l ↦
          let r = Has-from_map named (map (ordinal info.name) (numbers_from 0 (w.classes.sizes info.name))) l in
          let q = Has-from_map (ordinal info.name) (numbers_from 0 (w.classes.sizes info.name)) r.1 in
          inl (q.0, r.2 ∙ ap named q.2)
      | inr r ↦
          let q = Has-from_map (λ g. rest (ordinal info.name g)) (rests_beside (w.rests info.name) (w.classes.sizes info.name)) r in
          inr (q.0, q.2)
    ]

-- ---- numbers of one ordset

own_name : (t : Name) → bytes_eq t t ≡ true
own_name t = (bytes_eq-Decides t t).1 refl

below_is : (t : Name) (k l : ℕ) → below (Some (ordinal t k)) (Some (ordinal t l)) ≡ Some (nat_lt k l)
below_is t k l = ap (λ b. if b then Some (nat_lt k l) else None) (own_name t)

same_is : (t : Name) (k l : ℕ) → same (ordinal t k) (ordinal t l) ≡ nat_eq k l
same_is t k l = ap (λ b. b && nat_eq k l) (own_name t)

one_number : (t : Name) (g h : ℕ) → rest (ordinal t g) ≡ rest (ordinal t h) → g ≡ h
one_number t g h e = cc

abbrev one : Truth → List Truth
one u = u ∷ []

not_some : (b : Bool) → not_of (Some b) ≡ Some (not b)
not_some true = refl
not_some false = refl

-- ---- what is known

abbrev AreInOrder : Place → Place → Type 0
AreInOrder p q = (IsOneGap p q → IsEither (below_places p q)) × ((IsOneGap p q → ⊥) → IsKnown (below_places p q))

no_gap : (v : Value) (q : Place) → IsOneGap (named v) q → ⊥
no_gap v q h = cc (h.1)

two_sorts : (u v : Value) → IsOneGap (rest u) (named v) → ⊥
two_sorts u v h = cc (h.0)

gaps : (t : Name) (g h : ℕ) → AreInOrder (rest (ordinal t g)) (rest (ordinal t h))
gaps t g h = (λ gap. is (nat_eq g h) refl ∙ both gap, λ apart. by_number (nat_eq g h) refl apart)
  where
    is : (b : Bool) → nat_eq g h ≡ b → below_places (rest (ordinal t g)) (rest (ordinal t h)) ≡ (if b then unsure (Some (nat_lt g h)) else one (Some (nat_lt g h)))
    is b e =
        ap (λ c. if c then unsure (below (Some (ordinal t g)) (Some (ordinal t h))) else one (below (Some (ordinal t g)) (Some (ordinal t h)))) (same_is t g h ∙ e)
        ∙ ap (λ u. if b then unsure u else one u) (below_is t g h)

    both : IsOneGap (rest (ordinal t g)) (rest (ordinal t h)) → (if nat_eq g h then unsure (Some (nat_lt g h)) else one (Some (nat_lt g h))) ≡ Some true ∷ Some false ∷ []
    both gap = ap (λ b. if b then unsure (Some (nat_lt g h)) else one (Some (nat_lt g h))) (subst (λ k. nat_eq g k ≡ true) (one_number t g h gap.0) (nat_eq-itself g))

    by_number : (b : Bool) → nat_eq g h ≡ b → (IsOneGap (rest (ordinal t g)) (rest (ordinal t h)) → ⊥) → IsKnown (below_places (rest (ordinal t g)) (rest (ordinal t h)))
    by_number true e apart = absurd (apart (ap (λ k. rest (ordinal t k)) (nat_eq-is g h e), refl))
    by_number false e apart = (nat_lt g h, is false e)

in_order : (t : Name) (p q : Place) → IsClass t p ⊎ IsGap t p → IsClass t q ⊎ IsGap t q → AreInOrder p q
in_order t p q (inl (k, e)) (inl (l, f)) =
    subst (λ p. AreInOrder p q) (sym e) (subst (AreInOrder (named (ordinal t k))) (sym f) (λ gap. absurd (no_gap (ordinal t k) (named (ordinal t l)) gap), λ apart. (nat_lt k l, ap one (below_is t k l))))
in_order t p q (inl (k, e)) (inr (h, f)) =
    subst (λ p. AreInOrder p q) (sym e) (subst (AreInOrder (named (ordinal t k))) (sym f) (λ gap. absurd (no_gap (ordinal t k) (rest (ordinal t h)) gap), λ apart. (nat_lt k h, ap one (below_is t k h))))
in_order t p q (inr (g, e)) (inl (l, f)) =
    subst (λ p. AreInOrder p q) (sym e)
    (subst (AreInOrder (rest (ordinal t g))) (sym f)
    (λ gap. absurd (two_sorts (ordinal t g) (ordinal t l) gap), λ apart. (not (nat_lt l g), ap (λ u. one (not_of u)) (below_is t l g) ∙ ap one (not_some (nat_lt l g)))))
in_order t p q (inr (g, e)) (inr (h, f)) = subst (λ p. AreInOrder p q) (sym e) (subst (AreInOrder (rest (ordinal t g))) (sym f) (gaps t g h))

pub orders_known : (w : World) (set : ℕ) (info : SetInfo) → slice_get w.classes.sets set ≡ Some info → info.ordered ≡ true → (p q : Place) → Has (places_in w (Set set)) p → Has (places_in w (Set set)) q → AreInOrder p q
orders_known w set info there ordered p q h k = in_order info.name p q (class_or_gap w set info there ordered p h) (class_or_gap w set info there ordered q k)
