-- Elements in order, and their bits.
use Rattle.std.proofs.Common.{◌≡◌, ◌≢◌, ℕ, zero, suc, ◌+◌, ◌-◌, ◌≤◌, List, [], ◌∷◌, ◌++◌, map, length, Bool, true, false, cond, filter, ◌&&◌, ◌||◌, refl, sym, ap, subst, ◌∙◌, ◌⊎◌, inl, inr, Option, Some, None, nat_eq, nat_lt, arith}
use Rattle.std.specs.List.{flat_map, slice_get}
use Rattle.std.proofs.lemmas.Bool.{or_cases}
use Rattle.law_lists.proofs.Numbers.{nat_eq-is, nat_lt-true, nat_lt-is}
use Rattle.law_lists.proofs.Booleans.{either_left, either_right, and_both, left_of, right_of}
use Rattle.smv_core.specs.Values.{Name, Value, number, scalar, ordinal, Sizes, values_of, numbers_from}
use Rattle.smv_core.specs.Values as values
use Rattle.smv_core.specs.FlatMeaning.{set_type}
use Rattle.smv_core.specs.declared.flat.Family.{Family}
use Rattle.smv_core.specs.declared.flat.Simple.{Simple}
use Rattle.smv_core.specs.declared.flat.Simple.TheVariants.{Range, Enum, Set}
use Rattle.smv_core.specs.declared.flat.SetInfo.{SetInfo}
use Rattle.law_obligations.specs.Sets.{Has, first, later, one_of_each}
use Rattle.law_obligations.specs.Places.{Place, named, World, named_in}
use Rattle.law_obligations.specs.Covers.{IsIndexType}
use Rattle.law_obligations.specs.Soundness.{over_of}
use Rattle.law_obligations.proofs.Members.{Has-cases, Has-uncons, Has-from_map}
use Rattle.law_obligations.proofs.Same.{nat_eq-itself}
use Rattle.law_obligations.proofs.Spots.{numbers-Has}
use Rattle.law_obligations.proofs.OneOfEach.{Has-from_flat_map, get_Has}
use Rattle.law_obligations.specs.Outlines.{Entry, Outline}
use Rattle.law_obligations.specs.Reached.{is_among, reached}
use Rattle.law_obligations.specs.Cones.{AbsElement, element, same_element, elements_of, elements, first_elements, next_elements, cone}
use Rattle.law_obligations.proofs.Lookups.{Has-from_filter}
use Rattle.law_obligations.specs.Readings.{bits_of, bits_of_all}
use Rattle.smv_problem.specs.WellFormed.{AreApartElements}
use Rattle.law_problems.specs.Order.{number_of, number_at, are_before, is_before, AreInOrder, AreIndexed}

-- ---- sorted lists

abbrev AreSorted : {X : Type 0} → (X → X → Bool) → List X → Type 0
AreSorted before [] = Unit {0}
AreSorted {X} before (x ∷ xs) = ((y : X) → Has xs y → before x y ≡ true) × AreSorted before xs

sorted-map : {X Y : Type 0} (before : X → X → Bool) (after : Y → Y → Bool) (f : X → Y) → ((x y : X) → before x y ≡ true → after (f x) (f y) ≡ true) → (xs : List X) → AreSorted before xs → AreSorted after (map f xs)
sorted-map before after f keeps [] s = tt
sorted-map before after f keeps (x ∷ xs) s = (
  λ y h. let r = Has-from_map f xs h in subst (λ y. after (f x) y ≡ true) (sym r.2) (keeps x r.0 (s.0 r.0 r.1)),
  sorted-map before after f keeps xs s.1,
)

sorted-joined : {X : Type 0} (before : X → X → Bool) (xs ys : List X) → AreSorted before xs → AreSorted before ys → ((x y : X) → Has xs x → Has ys y → before x y ≡ true) → AreSorted before (xs ++ ys)
sorted-joined before [] ys s t b = t
sorted-joined before (x ∷ xs) ys s t b = (
  λ y h. elim (Has-cases xs ys h) [ inl l ↦ s.0 y l | inr r ↦ b x y first r ],
  sorted-joined before xs ys s.1 t (λ z y h k. b z y (later h) k),
)

sorted-flat_map : {X Y : Type 0} (before : X → X → Bool) (after : Y → Y → Bool) (f : X → List Y) → ((x : X) → AreSorted after (f x)) → ((x z : X) → before x z ≡ true → (y w : Y) → Has (f x) y → Has (f z) w → after y w ≡ true) →
    (xs : List X) → AreSorted before xs → AreSorted after (flat_map f xs)
sorted-flat_map before after f each across [] s = tt
sorted-flat_map before after f each across (x ∷ xs) s = sorted-joined after (f x) (flat_map f xs) (each x) (sorted-flat_map before after f each across xs s.1)
    (λ y w h k. let r = Has-from_flat_map f xs k in across x r.0 (s.0 r.0 r.1) y w h r.2)

sorted-filter : {X : Type 0} (before : X → X → Bool) (p : X → Bool) (xs : List X) → AreSorted before xs → AreSorted before (filter p xs)
sorted-filter before p [] s = tt
sorted-filter {X} before p (x ∷ xs) s = at (p x) (sorted-filter before p xs s.1)
  where
    at : (b : Bool) → AreSorted before (filter p xs) → AreSorted before (cond b (x ∷ filter p xs) (filter p xs))
    at true t = (λ y h. s.0 y (Has-from_filter p xs h).0, t)
    at false t = t

sorted-numbers : (low n : ℕ) → AreSorted nat_lt (numbers_from low n)
sorted-numbers low zero = tt
sorted-numbers low (suc n) = (λ k h. let b = numbers-Has (low + 1) n k h in let l = b.0 in nat_lt-true low k (omega (arith, l)), sorted-numbers (low + 1) n)

-- two sorted lists with the same members are one list, where no two stand before each other
one_list : {X : Type 0} (before : X → X → Bool) → ((x y : X) → before x y ≡ true → before y x ≡ true → ⊥) → (xs ys : List X) → AreSorted before xs → AreSorted before ys →
    ((x : X) → Has xs x → Has ys x) → ((x : X) → Has ys x → Has xs x) → xs ≡ ys
one_list before apart [] [] s t there back = refl
one_list before apart [] (y ∷ ys) s t there back = absurd (no (back y first))
  where
    no : {X : Type 0} {x : X} → Has [] x → ⊥
    no h = elim h [ ]
one_list before apart (x ∷ xs) [] s t there back = absurd (no (there x first))
  where
    no : {X : Type 0} {x : X} → Has [] x → ⊥
    no h = elim h [ ]
one_list {X} before apart (x ∷ xs) (y ∷ ys) s t there back =
    ap (λ z. z ∷ xs) heads ∙ ap (λ zs. y ∷ zs) (one_list before apart xs ys s.1 t.1 (λ z h. ahead z h (Has-uncons (there z (later h)))) (λ z h. behind z h (Has-uncons (back z (later h)))))
  where
    heads : x ≡ y
    heads = elim (Has-uncons (back y first)) [
      | inl e ↦ sym e
      | inr h ↦ elim (Has-uncons (there x first)) [
        | inl e ↦ e
        | inr k ↦ absurd (apart x y (s.0 y h) (t.0 x k))
      ]
    ]

    ahead : (z : X) → Has xs z → (z ≡ y) ⊎ Has ys z → Has ys z
    ahead z h (inl e) = let l = s.0 z h in let same = heads ∙ sym e in absurd (apart x z l (subst (λ a. before z a ≡ true) (sym same) (subst (λ a. before a z ≡ true) same l)))
    ahead z h (inr k) = k

    behind : (z : X) → Has ys z → (z ≡ x) ⊎ Has xs z → Has xs z
    behind z h (inl e) = let l = t.0 z h in let same = sym heads ∙ sym e in absurd (apart y z l (subst (λ a. before z a ≡ true) (sym same) (subst (λ a. before a z ≡ true) same l)))
    behind z h (inr k) = k

-- ---- the order of elements

-- of two that stand before each other by a number and else by a test both numbers are one, and both tests hold
both_ways : (a b : ℕ) (r s : Bool) → (nat_lt a b || (nat_eq a b && r)) ≡ true → (nat_lt b a || (nat_eq b a && s)) ≡ true → (r ≡ true) × (s ≡ true)
both_ways a b r s e f = elim (or_cases (nat_lt a b) (nat_eq a b && r) e) [
  | inl l ↦ elim (or_cases (nat_lt b a) (nat_eq b a && s) f) [
    | inl k ↦ let x = nat_lt-is a b l in let y = nat_lt-is b a k in absurd (omega (arith, x, y))
    | inr k ↦ let x = nat_lt-is a b l in let y = nat_eq-is b a (left_of (nat_eq b a) s k) in absurd (omega (arith, x, y))
  ]
  | inr l ↦ elim (or_cases (nat_lt b a) (nat_eq b a && s) f) [
    | inl k ↦ let x = nat_eq-is a b (left_of (nat_eq a b) r l) in let y = nat_lt-is b a k in absurd (omega (arith, x, y))
    | inr k ↦ (right_of (nat_eq a b) r l, right_of (nat_eq b a) s k)
  ]
]

places_apart : (ps qs : List Place) → are_before ps qs ≡ true → are_before qs ps ≡ true → ⊥
places_apart [] qs e f = absurd (cc)
places_apart (p ∷ ps) [] e f = absurd (cc)
places_apart (p ∷ ps) (q ∷ qs) e f = let r = both_ways (number_at p) (number_at q) (are_before ps qs) (are_before qs ps) e f in places_apart ps qs r.0 r.1

elements_apart : (x y : AbsElement) → is_before x y ≡ true → is_before y x ≡ true → ⊥
elements_apart x y e f = let r = both_ways x.family y.family (are_before x.indexes y.indexes) (are_before y.indexes x.indexes) e f in places_apart x.indexes y.indexes r.0 r.1

-- ---- elements in order

abbrev comes : Place → Place → Bool
comes p q = nat_lt (number_at p) (number_at q)

abbrev AreAllSorted : List (List Place) → Type 0
AreAllSorted [] = Unit {0}
AreAllSorted (ps ∷ pss) = AreSorted comes ps × AreAllSorted pss

sorted-choices : (pss : List (List Place)) → AreAllSorted pss → AreSorted are_before (one_of_each pss)
sorted-choices [] s = (λ y h. elim h [ ], tt)
sorted-choices (ps ∷ pss) s = sorted-flat_map comes are_before (λ p. map (λ qs. p ∷ qs) (one_of_each pss))
    (λ p. sorted-map are_before are_before (λ qs. p ∷ qs) (λ qs rs e. either_right (nat_lt (number_at p) (number_at p)) (and_both (nat_eq-itself (number_at p)) e)) (one_of_each pss) (sorted-choices pss s.1))
    across ps s.0
  where
    across : (p q : Place) → comes p q ≡ true → (ys zs : List Place) → Has (map (λ qs. p ∷ qs) (one_of_each pss)) ys → Has (map (λ qs. q ∷ qs) (one_of_each pss)) zs → are_before ys zs ≡ true
    across p q e ys zs h k =
        let a = Has-from_map (λ qs. p ∷ qs) (one_of_each pss) h in
        let b = Has-from_map (λ qs. q ∷ qs) (one_of_each pss) k in
        subst (λ ys. are_before ys zs ≡ true) (sym a.2) (subst (λ zs. are_before (p ∷ a.0) zs ≡ true) (sym b.2) (either_left (nat_eq (number_at p) (number_at q) && are_before a.0 b.0) e))

sorted-values : (f : ℕ → Value) → ((k : ℕ) → number_of (f k) ≡ k) → (low n : ℕ) → AreSorted comes (map named (map f (numbers_from low n)))
sorted-values f is low n = sorted-map value_comes comes named (λ u v e. e) (map f (numbers_from low n))
    (sorted-map nat_lt value_comes f (λ a b e. subst (λ k. nat_lt k (number_of (f b)) ≡ true) (sym (is a)) (subst (λ k. nat_lt a k ≡ true) (sym (is b)) e)) (numbers_from low n) (sorted-numbers low n))
  where
    value_comes : Value → Value → Bool
    value_comes u v = nat_lt (number_of u) (number_of v)

sorted-set : (sizes : Sizes) (o : Option SetInfo) → AreSorted comes (map named (values_of sizes (set_type o)))
sorted-set sizes None = tt
sorted-set sizes (Some info) = at info.ordered info.name
  where
    at : (b : Bool) (t : Name) → AreSorted comes (map named (values_of sizes (cond b (values.ordset t) (values.scalarset t))))
    at true t = sorted-values (ordinal t) (λ k. refl) 0 (sizes t)
    at false t = sorted-values (scalar t) (λ k. refl) 0 (sizes t)

module _ (w : World) (indexed : AreIndexed w) where
  sorted-type : (t : Simple) → IsIndexType t → AreSorted comes (named_in w t)
  sorted-type (Range low high) i = sorted-values number (λ k. refl) low (high + 1 - low)
  sorted-type (Enum list) i = absurd i
  sorted-type (Set set) i = sorted-set w.classes.sizes (slice_get w.classes.sets set)

  all_sorted : (types : List Simple) → ((t : Simple) → Has types t → IsIndexType t) → AreAllSorted (map (named_in w) types)
  all_sorted [] each = tt
  all_sorted (t ∷ types) each = (sorted-type t (each t first), all_sorted types (λ u h. each u (later h)))

  over_indexed : (o : Option Family) (k : ℕ) → slice_get w.classes.families k ≡ o → (t : Simple) → Has (over_of o) t → IsIndexType t
  over_indexed None k e t h = elim h [ ]
  over_indexed (Some f) k e t h = indexed f (get_Has w.classes.families k f e) t h

  sorted-family : (family : ℕ) → AreSorted is_before (elements_of w family)
  sorted-family family = sorted-map are_before is_before (element family) (λ ps qs e. either_right (nat_lt family family) (and_both (nat_eq-itself family) e)) _
      (sorted-choices _ (all_sorted (over_of (slice_get w.classes.families family)) (over_indexed (slice_get w.classes.families family) family refl)))

  sorted-elements : AreSorted is_before (elements w)
  sorted-elements = sorted-flat_map nat_lt is_before (elements_of w) sorted-family across _ (sorted-numbers 0 (length w.classes.families))
    where
      family_of : (family : ℕ) (x : AbsElement) → Has (elements_of w family) x → x.family ≡ family
      family_of family x h = ap (λ (x : AbsElement). x.family) (Has-from_map (element family) (one_of_each (map (named_in w) (over_of (slice_get w.classes.families family)))) h).2

      across : (k l : ℕ) → nat_lt k l ≡ true → (x y : AbsElement) → Has (elements_of w k) x → Has (elements_of w l) y → is_before x y ≡ true
      across k l e x y h i = either_left (nat_eq x.family y.family && are_before x.indexes y.indexes)
          (subst (λ k. nat_lt k y.family ≡ true) (sym (family_of k x h)) (subst (λ l. nat_lt k l ≡ true) (sym (family_of l y i)) e))

  as_sorted : (xs : List AbsElement) → AreInOrder xs → AreSorted is_before xs
  as_sorted [] s = tt
  as_sorted (x ∷ xs) s = (s.0, as_sorted xs s.1)

  pub is_cone : (o : Outline) (entry : Entry) (params : List Place) (found : List AbsElement) → AreInOrder found → ((x : AbsElement) → Has found x → Has (cone w o entry params) x) →
      ((x : AbsElement) → Has (cone w o entry params) x → Has found x) → found ≡ cone w o entry params
  is_cone o entry params found s there back = one_list is_before elements_apart found (cone w o entry params) (as_sorted found s)
      (sorted-filter is_before (is_among same_element (next_elements w o entry params) (reached same_element (next_elements w o entry params) (length (elements w)) (first_elements w o entry params))) (elements w) sorted-elements) there back

  in_order : (xs : List AbsElement) → AreSorted is_before xs → AreInOrder xs
  in_order [] s = tt
  in_order (x ∷ xs) s = (s.0, in_order xs s.1)

  pub cone_in_order : (o : Outline) (entry : Entry) (params : List Place) → AreInOrder (cone w o entry params)
  cone_in_order o entry params = in_order (cone w o entry params)
      (sorted-filter is_before (is_among same_element (next_elements w o entry params) (reached same_element (next_elements w o entry params) (length (elements w)) (first_elements w o entry params))) (elements w) sorted-elements)

-- ---- bits

-- a list without one of its elements
record IsWithout (w : World) (all : List AbsElement) (x : AbsElement) : Type 0 where
  others : List AbsElement
  bits : bits_of_all w all ≡ bits_of w x + bits_of_all w others
  there : (y : AbsElement) → Has all y → x ≢ y → Has others y

without : (w : World) (all : List AbsElement) (x : AbsElement) → Has all x → IsWithout w all x
without w [] x h = elim h [ ]
without w (x ∷ all) _ first = record { others = all; bits = refl; there = λ y h n. elim (Has-uncons h) [ inl e ↦ absurd (n (sym e)) | inr k ↦ k ] }
without w (z ∷ all) x (later h) =
    let r = without w all x h in
    let bits = r.bits in
    record {
      others = z ∷ r.others;
      bits = omega (arith, bits);
      there = λ y k n. elim (Has-uncons k) [ inl e ↦ subst (Has (z ∷ r.others)) (sym e) first | inr l ↦ later (r.there y l n) ];
    }

pub no_more_bits : (w : World) (found all : List AbsElement) → AreApartElements found → ((x : AbsElement) → Has found x → Has all x) → bits_of_all w found ≤ bits_of_all w all
no_more_bits w [] all apart there = omega arith
no_more_bits w (x ∷ found) all apart there =
    let r = without w all x (there x first) in
    let bits = r.bits in
    let fewer = no_more_bits w found r.others apart.1 (λ y h. r.there y (there y (later h)) (apart.0 y h)) in
    omega (arith, bits, fewer)
