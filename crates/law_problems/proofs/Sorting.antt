-- Elements of a cone in order, as they are written.
use Rattle.std.proofs.Common.{◌≡◌, ℕ, ◌+◌, ◌-◌, List, [], ◌∷◌, map, length, Bool, true, false, cond, ◌&&◌, ◌||◌, nat_eq, nat_lt, refl, sym, ap, subst, ◌∙◌, ◌⊎◌, inl, inr, Option, Some, None}
use Rattle.std.specs.List.{slice_get}
use Rattle.law_lists.proofs.Numbers.{nat_eq-is}
use Rattle.law_lists.proofs.Booleans.{left_of}
use Rattle.smv_core.specs.Values.{Value, number, scalar, ordinal, values_of, numbers_from}
use Rattle.smv_core.specs.Values as values
use Rattle.smv_core.specs.FlatMeaning.{set_type}
use Rattle.smv_core.specs.declared.flat.Family.{Family}
use Rattle.smv_core.specs.declared.flat.Simple.{Simple}
use Rattle.smv_core.specs.declared.flat.Simple.TheVariants.{Range, Enum, Set}
use Rattle.smv_core.specs.declared.flat.SetInfo.{SetInfo}
use Rattle.smv_core.specs.declared.flat.Element.{Element}
use Rattle.law_obligations.specs.Sets.{Has, first, later, one_of_each}
use Rattle.law_obligations.specs.Places.{Place, named, World, named_in}
use Rattle.law_obligations.specs.Covers.{IsIndexType}
use Rattle.law_obligations.specs.Soundness.{over_of}
use Rattle.law_obligations.proofs.Members.{Has-map, Has-from_map, Has-uncons}
use Rattle.law_obligations.proofs.Same.{nat_eq-itself}
use Rattle.law_obligations.proofs.OneOfEach.{AreOf, are_of, get_Has, Has-from_flat_map}
use Rattle.law_obligations.specs.Outlines.{Entry, Outline}
use Rattle.law_obligations.specs.Cones.{AbsElement, element, elements_of, elements, same_element, cone, next_elements, first_elements}
use Rattle.law_obligations.specs.Reached.{is_among, reached}
use Rattle.law_obligations.proofs.Lookups.{Has-from_filter}
use Rattle.law_problems.specs.Order.{number_of, number_at, are_before, is_before, AreIndexed}
use Rattle.law_problems.specs.Order as abs
use Rattle.law_problems.proofs.Orders.{cone_in_order}
use Rattle.smv_problem.specs.Written.{written_class, written_element}
use Rattle.smv_elements.specs.Elements.{sort_of, keys, numbers_before, AreInOrder, HaveSame}
use Rattle.smv_elements.specs.Elements as written
use Rattle.smv_elements.proofs.Keys.{before-apart, before-follow}
use Rattle.law_problems.specs.FoundLaws.{HaveAll}

-- ---- two lists in order with the same members are one

one_list : (xs ys : List Element) → AreInOrder xs → AreInOrder ys → ((x : Element) → Has xs x → Has ys x) → ((x : Element) → Has ys x → Has xs x) → xs ≡ ys
one_list [] [] s t there back = refl
one_list [] (y ∷ ys) s t there back = absurd (no (back y first))
  where
    no : {x : Element} → Has [] x → ⊥
    no h = elim h [ ]
one_list (x ∷ xs) [] s t there back = absurd (no (there x first))
  where
    no : {x : Element} → Has [] x → ⊥
    no h = elim h [ ]
one_list (x ∷ xs) (y ∷ ys) s t there back = ap (λ z. z ∷ xs) heads ∙ ap (λ zs. y ∷ zs) (one_list xs ys s.1 t.1 (λ z h. ahead z h (Has-uncons (there z (later h)))) (λ z h. behind z h (Has-uncons (back z (later h)))))
  where
    heads : x ≡ y
    heads = elim (Has-uncons (back y first)) [
      | inl e ↦ sym e
      | inr h ↦ elim (Has-uncons (there x first)) [
        | inl e ↦ e
        | inr k ↦ absurd (before-apart x (before-follow x y x (s.0 y h) (t.0 x k)))
      ]
    ]

    ahead : (z : Element) → Has xs z → (z ≡ y) ⊎ Has ys z → Has ys z
    ahead z h (inl e) = absurd (before-apart x (subst (λ a. written.is_before x a ≡ true) (e ∙ sym heads) (s.0 z h)))
    ahead z h (inr k) = k

    behind : (z : Element) → Has ys z → (z ≡ x) ⊎ Has xs z → Has xs z
    behind z h (inl e) = absurd (before-apart y (subst (λ a. written.is_before y a ≡ true) (e ∙ heads) (t.0 z h)))
    behind z h (inr k) = k

-- ---- keys

-- the number of a value of one sort
each-key : (f : ℕ → Value) (s : ℕ) → ((k : ℕ) → (sort_of (written_class (named (f k))) ≡ s) × (written.number_of (written_class (named (f k))) ≡ number_of (f k))) → (ks : List ℕ) (p : Place) → Has (map named (map f ks)) p →
    (sort_of (written_class p) ≡ s) × (written.number_of (written_class p) ≡ number_at p)
each-key f s is ks p h =
    let a = Has-from_map named (map f ks) h in
    let b = Has-from_map f ks a.1 in
    let same : p ≡ named (f b.0) = a.2 ∙ ap named b.2 in
    subst (λ p. (sort_of (written_class p) ≡ s) × (written.number_of (written_class p) ≡ number_at p)) (sym same) (is b.0)

-- the sort of an index type
abbrev sort_in : Simple → ℕ
sort_in (Range low high) = 0
sort_in _ = 1

module _ (w : World) where
  set-key : (o : Option SetInfo) (p : Place) → Has (map named (values_of w.classes.sizes (set_type o))) p → (sort_of (written_class p) ≡ 1) × (written.number_of (written_class p) ≡ number_at p)
  set-key None p h = elim h [ ]
  set-key (Some info) p h = at info.ordered h
    where
      at : (b : Bool) → Has (map named (values_of w.classes.sizes (cond b (values.ordset info.name) (values.scalarset info.name)))) p → (sort_of (written_class p) ≡ 1) × (written.number_of (written_class p) ≡ number_at p)
      at true h = each-key (ordinal info.name) 1 (λ k. (refl, refl)) (numbers_from 0 (w.classes.sizes info.name)) p h
      at false h = each-key (scalar info.name) 1 (λ k. (refl, refl)) (numbers_from 0 (w.classes.sizes info.name)) p h

  type-key : (t : Simple) → IsIndexType t → (p : Place) → Has (named_in w t) p → (sort_of (written_class p) ≡ sort_in t) × (written.number_of (written_class p) ≡ number_at p)
  type-key (Range low high) i p h = each-key number 0 (λ k. (refl, refl)) (numbers_from low (high + 1 - low)) p h
  type-key (Enum list) i p h = absurd i
  type-key (Set set) i p h = set-key (slice_get w.classes.sets set) p h

  -- by a first number that is the same, and then another
  behind-sort : (s a b : ℕ) (r : Bool) → (nat_lt a b || (nat_eq a b && r)) ≡ true → (nat_lt s s || (nat_eq s s && (nat_lt a b || (nat_eq a b && r)))) ≡ true
  behind-sort s a b r e = at (nat_lt s s) (ap (λ (c : Bool). c && (nat_lt a b || (nat_eq a b && r))) (nat_eq-itself s) ∙ e)
    where
      at : (c : Bool) → (nat_eq s s && (nat_lt a b || (nat_eq a b && r))) ≡ true → (c || (nat_eq s s && (nat_lt a b || (nat_eq a b && r)))) ≡ true
      at true e = refl
      at false e = e

  or-true : (a b c : Bool) → (b ≡ true → c ≡ true) → (a || b) ≡ true → (a || c) ≡ true
  or-true true b c f e = refl
  or-true false b c f e = f e

  and-true : (a b c : Bool) → (b ≡ true → c ≡ true) → (a && b) ≡ true → (a && c) ≡ true
  and-true true b c f e = f e
  and-true false b c f e = absurd (cc)

  indexes-before : (types : List Simple) → ((t : Simple) → Has types t → IsIndexType t) → (ps qs : List Place) → AreOf (map (named_in w) types) ps → AreOf (map (named_in w) types) qs → are_before ps qs ≡ true →
      numbers_before (keys (map written_class ps)) (keys (map written_class qs)) ≡ true
  indexes-before [] i [] qs h k e = absurd (cc)
  indexes-before [] i (p ∷ ps) qs h k e = elim h [ ]
  indexes-before (t ∷ types) i [] qs h k e = elim h [ ]
  indexes-before (t ∷ types) i (p ∷ ps) [] h k e = elim k [ ]
  indexes-before (t ∷ types) i (p ∷ ps) (q ∷ qs) h k e =
      let a = type-key t (i t first) p h.0 in
      let b = type-key t (i t first) q k.0 in
      let rest = numbers_before (keys (map written_class ps)) (keys (map written_class qs)) in
      let inner : (nat_lt (number_at p) (number_at q) || (nat_eq (number_at p) (number_at q) && rest)) ≡ true =
      or-true (nat_lt (number_at p) (number_at q)) (nat_eq (number_at p) (number_at q) && are_before ps qs) (nat_eq (number_at p) (number_at q) && rest)
      (and-true (nat_eq (number_at p) (number_at q)) (are_before ps qs) rest (indexes-before types (λ u m. i u (later m)) ps qs h.1 k.1)) e in
      let whole : ℕ → ℕ → ℕ → ℕ → Bool = λ s u m n. nat_lt s u || (nat_eq s u && (nat_lt m n || (nat_eq m n && rest))) in
      ap (λ s. whole s (sort_of (written_class q)) (written.number_of (written_class p)) (written.number_of (written_class q))) a.0
      ∙ (ap (λ u. whole (sort_in t) u (written.number_of (written_class p)) (written.number_of (written_class q))) b.0
      ∙ (ap (λ m. whole (sort_in t) (sort_in t) m (written.number_of (written_class q))) a.1
      ∙ (ap (λ n. whole (sort_in t) (sort_in t) (number_at p) n) b.1
      ∙ behind-sort (sort_in t) (number_at p) (number_at q) rest inner)))

  over_indexed : AreIndexed w → (o : Option Family) (k : ℕ) → slice_get w.classes.families k ≡ o → (t : Simple) → Has (over_of o) t → IsIndexType t
  over_indexed indexed None k e t h = elim h [ ]
  over_indexed indexed (Some f) k e t h = indexed f (get_Has w.classes.families k f e) t h

  indexes-are : (x : AbsElement) → Has (elements w) x → AreOf (map (named_in w) (over_of (slice_get w.classes.families x.family))) x.indexes
  indexes-are x h =
      let r = Has-from_flat_map (elements_of w) (numbers_from 0 _) h in
      let q = Has-from_map (element r.0) (one_of_each (map (named_in w) (over_of (slice_get w.classes.families r.0)))) r.2 in
      subst (λ (x : AbsElement). AreOf (map (named_in w) (over_of (slice_get w.classes.families x.family))) x.indexes) (sym q.2) (are_of (map (named_in w) (over_of (slice_get w.classes.families r.0))) q.0 q.1)

  -- an element before another is written before it
  before-written : AreIndexed w → (x y : AbsElement) → Has (elements w) x → Has (elements w) y → is_before x y ≡ true → written.is_before (written_element x) (written_element y) ≡ true
  before-written indexed x y h k e =
      or-true (nat_lt x.family y.family) (nat_eq x.family y.family && are_before x.indexes y.indexes) (nat_eq x.family y.family && numbers_before (keys (map written_class x.indexes)) (keys (map written_class y.indexes))) inner e
    where
      inner : (nat_eq x.family y.family && are_before x.indexes y.indexes) ≡ true → (nat_eq x.family y.family && numbers_before (keys (map written_class x.indexes)) (keys (map written_class y.indexes))) ≡ true
      inner f =
          let family = nat_eq-is x.family y.family (left_of (nat_eq x.family y.family) (are_before x.indexes y.indexes) f) in
          let there = subst (λ family. AreOf (map (named_in w) (over_of (slice_get w.classes.families family))) y.indexes) (sym family) (indexes-are y k) in
          and-true (nat_eq x.family y.family) (are_before x.indexes y.indexes) (numbers_before (keys (map written_class x.indexes)) (keys (map written_class y.indexes)))
          (indexes-before (over_of (slice_get w.classes.families x.family)) (over_indexed indexed (slice_get w.classes.families x.family) x.family refl) x.indexes y.indexes (indexes-are x h) there) f

  written-in-order : AreIndexed w → (xs : List AbsElement) → ((x : AbsElement) → Has xs x → Has (elements w) x) → abs.AreInOrder xs → AreInOrder (map written_element xs)
  written-in-order indexed [] of s = tt
  written-in-order indexed (x ∷ xs) of s = (
    λ y h. let r = Has-from_map written_element xs h in subst (λ y. written.is_before (written_element x) y ≡ true) (sym r.2) (before-written indexed x r.0 (of x first) (of r.0 (later r.1)) (s.0 r.0 r.1)),
    written-in-order indexed xs (λ y h. of y (later h)) s.1,
  )

  cone-of : (o : Outline) (entry : Entry) (params : List Place) (x : AbsElement) → Has (cone w o entry params) x → Has (elements w) x
  cone-of o entry params x h = (Has-from_filter (is_among same_element (next_elements w o entry params) (reached same_element (next_elements w o entry params) (length (elements w)) (first_elements w o entry params))) (elements w) h).0

  pub cone-in-order : (o : Outline) (entry : Entry) (params : List Place) → AreIndexed w → AreInOrder (map written_element (cone w o entry params))
  cone-in-order o entry params indexed = written-in-order indexed (cone w o entry params) (cone-of o entry params) (cone_in_order w indexed o entry params)

  pub sorted-written : (o : Outline) (entry : Entry) (params : List Place) → AreIndexed w → (found : List AbsElement) → HaveAll found (cone w o entry params) → (sorted : List Element) → AreInOrder sorted →
      HaveSame (map written_element found) sorted → sorted ≡ map written_element (cone w o entry params)
  sorted-written o entry params indexed found all sorted order same =
      one_list sorted (map written_element (cone w o entry params)) order (cone-in-order o entry params indexed)
      (λ e h. let r = Has-from_map written_element found (same.back e h) in subst (Has (map written_element (cone w o entry params))) (sym r.2) (Has-map written_element (all.0 r.0 r.1)))
      (λ e h. let r = Has-from_map written_element (cone w o entry params) h in same.there e (subst (Has (map written_element found)) (sym r.2) (Has-map written_element (all.1 r.0 r.1))))
