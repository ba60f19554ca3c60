-- What the three facts of each type say of the values of a design.
use Rattle.std.proofs.Common.{◌≡◌, ℕ, ◌+◌, ◌-◌, List, [], ◌∷◌, map, Bool, true, false, if◌then◌else◌, ◌&&◌, refl, sym, ap, subst, ◌∙◌, inl, inr, Some, None, option_map, nat_eq, nat_lt}
use Rattle.std.specs.Str.{bytes_eq}
use Rattle.std.proofs.lemmas.Slice.Eq.{bytes_eq-Decides}
use Rattle.std.proofs.lemmas.Bool.{cases_Bool}
use Rattle.law_lists.proofs.Booleans.{same_tests}
use Rattle.smv_core.specs.Values.{Name, Value, number, constant, scalar, ordinal, Simple, range, choice, scalarset, ordset, Sizes, Outcome, values_of, numbers_from, same, below, equal, compare, not_of, is_in}
use Rattle.smv_core.specs.FlatMeaning.{Numbered, values_in, simple_in}
use Rattle.smv_core.specs.declared.tree.Op.{Op}
use Rattle.smv_core.specs.declared.tree.Op.TheVariants.{Equal, Differ, Less, AtMost, Greater, AtLeast}
use Rattle.smv_core.specs.declared.flat.Simple.{Simple as FlatSimple}
use Rattle.smv_core.specs.declared.abstract_type.AbsType.{AbsType}
use Rattle.law_obligations.specs.Sets.{Has, first}
use Rattle.law_obligations.specs.Places.{Place, named, rest, World, world, rests_beside, named_of, rests_of, places_of, places_in, is_among, AbsOutcome, unsure, equal_places, below_places, where_defined, may_compare}
use Rattle.law_obligations.specs.Pictures.{Spot, class, other, Placing, at_spot, placed, ArePlaced, IsValue}
use Rattle.law_obligations.proofs.Members.{Has-cases, Has-map, Has-from_map}
use Rattle.law_obligations.proofs.Same.{is_in-Has, Has-is_in, is_among-Has, Has-is_among}

-- the sort of values that a type has
abbrev IsOfSort : Simple → Value → Type 0
IsOfSort (range low high) (number k) = Unit {0}
IsOfSort (choice names) (constant c) = Unit {0}
IsOfSort (scalarset t) (scalar u k) = t ≡ u
IsOfSort (ordset t) (ordinal u k) = t ≡ u
IsOfSort _ _ = ⊥

sort_of : (sizes : Sizes) (t : Simple) (v : Value) → Has (values_of sizes t) v → IsOfSort t v
sort_of sizes (range low high) v h = let r = Has-from_map number (numbers_from low (high + 1 - low)) h in subst (IsOfSort (range low high)) (sym r.2) tt
sort_of sizes (choice names) v h = let r = Has-from_map constant names h in subst (IsOfSort (choice names)) (sym r.2) tt
sort_of sizes (scalarset t) v h = let r = Has-from_map (scalar t) (numbers_from 0 (sizes t)) h in subst (IsOfSort (scalarset t)) (sym r.2) refl
sort_of sizes (ordset t) v h = let r = Has-from_map (ordinal t) (numbers_from 0 (sizes t)) h in subst (IsOfSort (ordset t)) (sym r.2) refl

sort_scalar : (t : Simple) (u : Name) (k l : ℕ) → IsOfSort t (scalar u k) → IsOfSort t (scalar u l)
sort_scalar (range low high) u k l h = h
sort_scalar (choice names) u k l h = h
sort_scalar (scalarset t) u k l h = h
sort_scalar (ordset t) u k l h = h

sort_ordinal : (t : Simple) (u : Name) (k l : ℕ) → IsOfSort t (ordinal u k) → IsOfSort t (ordinal u l)
sort_ordinal (range low high) u k l h = h
sort_ordinal (choice names) u k l h = h
sort_ordinal (scalarset t) u k l h = h
sort_ordinal (ordset t) u k l h = h

is_scalarset : (t : Simple) (u : Name) (k : ℕ) → IsOfSort t (scalar u k) → t ≡ scalarset u
is_scalarset (range low high) u k h = elim h [ ]
is_scalarset (choice names) u k h = elim h [ ]
is_scalarset (scalarset t) u k h = ap scalarset h
is_scalarset (ordset t) u k h = elim h [ ]

is_ordset : (t : Simple) (u : Name) (k : ℕ) → IsOfSort t (ordinal u k) → t ≡ ordset u
is_ordset (range low high) u k h = elim h [ ]
is_ordset (choice names) u k h = elim h [ ]
is_ordset (scalarset t) u k h = elim h [ ]
is_ordset (ordset t) u k h = ap ordset h

-- how a place is written
abbrev value_at : Place → Value
value_at (named v) = v
value_at (rest v) = v

place_sort : (w : World) (t : Simple) (p : Place) → Has (places_of w t) p → IsOfSort t (value_at p)
place_sort w t p h = elim (Has-cases (named_of w t) (rests_of w t) h) [
  | inl l ↦ let r = Has-from_map named (values_of w.classes.sizes t) l in subst (λ q. IsOfSort t (value_at q)) (sym r.2) (sort_of w.classes.sizes t r.0 r.1)
  | inr l ↦ at_rest t l
]
  where
    at_rest : (t : Simple) → Has (rests_of w t) p → IsOfSort t (value_at p)
    at_rest (range low high) l = elim l [ ]
    at_rest (choice names) l = elim l [ ]
    at_rest (scalarset t) l = let r = Has-from_map (λ g. rest (scalar t g)) (rests_beside (w.rests t) (w.classes.sizes t)) l in subst (λ q. IsOfSort (scalarset t) (value_at q)) (sym r.2) refl
    at_rest (ordset t) l = let r = Has-from_map (λ g. rest (ordinal t g)) (rests_beside (w.rests t) (w.classes.sizes t)) l in subst (λ q. IsOfSort (ordset t) (value_at q)) (sym r.2) refl

placed_sort : (spots : Placing) (t : Simple) (v : Value) → IsOfSort t (value_at (placed spots v)) → IsOfSort t v
placed_sort spots t (number k) h = h
placed_sort spots t (constant c) h = h
placed_sort spots t (scalar u k) h = at (spots u k) h
  where
    at : (s : Spot) → IsOfSort t (value_at (at_spot (scalar u) s)) → IsOfSort t (scalar u k)
    at (class c) h = sort_scalar t u c k h
    at (other g) h = sort_scalar t u g k h
placed_sort spots t (ordinal u k) h = at (spots u k) h
  where
    at : (s : Spot) → IsOfSort t (value_at (at_spot (ordinal u) s)) → IsOfSort t (ordinal u k)
    at (class c) h = sort_ordinal t u c k h
    at (other g) h = sort_ordinal t u g k h

-- numbers and constants are the same at all sizes
number_stays : (w : World) (sizes : Sizes) (t : Simple) (k : ℕ) → Has (places_of w t) (named (number k)) → Has (values_of sizes t) (number k)
number_stays w sizes (range low high) k h = elim (Has-cases (map named (values_of sizes (range low high))) [] h) [
  | inl l ↦ let r = Has-from_map named (values_of sizes (range low high)) l in subst (Has (values_of sizes (range low high))) (sym (ap value_at r.2)) r.1
  | inr l ↦ elim l [ ]
]
number_stays w sizes (choice names) k h = absurd (place_sort w (choice names) (named (number k)) h)
number_stays w sizes (scalarset t) k h = absurd (place_sort w (scalarset t) (named (number k)) h)
number_stays w sizes (ordset t) k h = absurd (place_sort w (ordset t) (named (number k)) h)

constant_stays : (w : World) (sizes : Sizes) (t : Simple) (c : Name) → Has (places_of w t) (named (constant c)) → Has (values_of sizes t) (constant c)
constant_stays w sizes (choice names) c h = elim (Has-cases (map named (values_of sizes (choice names))) [] h) [
  | inl l ↦ let r = Has-from_map named (values_of sizes (choice names)) l in subst (Has (values_of sizes (choice names))) (sym (ap value_at r.2)) r.1
  | inr l ↦ elim l [ ]
]
constant_stays w sizes (range low high) c h = absurd (place_sort w (range low high) (named (constant c)) h)
constant_stays w sizes (scalarset t) c h = absurd (place_sort w (scalarset t) (named (constant c)) h)
constant_stays w sizes (ordset t) c h = absurd (place_sort w (ordset t) (named (constant c)) h)

-- values of different sorts never are the same, wherever they lie
apart : (f g : ℕ → Value) → ((c d : ℕ) → same (f c) (g d) ≡ false) → (s t : Spot) → Has (equal_places (at_spot f s) (at_spot g t)) (Some false)
apart f g h (class c) (class d) = rw (h c d) first
apart f g h (class c) (other d) = first
apart f g h (other c) (class d) = first
apart f g h (other c) (other d) = rw (h c d) first

-- nor has `<` an answer for them
pub unordered : (f g : ℕ → Value) → ((c d : ℕ) → below (Some (f c)) (Some (g d)) ≡ None) → ((c d : ℕ) → below (Some (g d)) (Some (f c)) ≡ None) →
    (s t : Spot) → Has (below_places (at_spot f s) (at_spot g t)) None
unordered f g h k (class c) (class d) = rw (h c d) first
unordered f g h k (class c) (other d) = rw (h c d) first
unordered f g h k (other c) (class d) = rw (k c d) first
unordered f g h k (other c) (other d) = rw (h c d) (at (same (f c) (g d)))
  where
    at : (b : Bool) → Has (if b then unsure None else None ∷ []) None
    at true = first
    at false = first

pub not_named : (t u : Name) → bytes_eq t u ≡ false → bytes_eq u t ≡ false
not_named t u h = elim (cases_Bool (bytes_eq u t)) [ inl e ↦ absurd (clash ((bytes_eq-Decides t u).1 (sym ((bytes_eq-Decides u t).0 e))) h) | inr e ↦ e ]
  where
    clash : {b : Bool} → b ≡ true → b ≡ false → ⊥
    clash p q = cc

-- an outcome that is Undefined or a value of the design
abbrev pub IsOutcome : Numbered → Outcome → Type 0
IsOutcome n None = Unit {0}
IsOutcome n (Some v) = IsValue n v

abbrev pub AreOutcomes : Numbered → List Outcome → Type 0
AreOutcomes n [] = Unit {0}
AreOutcomes n (u ∷ us) = IsOutcome n u × AreOutcomes n us

-- where an outcome lies
abbrev pub placed_outcome : Placing → Outcome → AbsOutcome
placed_outcome spots u = option_map (placed spots) u

-- a value of a type is a value of the design
pub of_type : (n : Numbered) (t : FlatSimple) (v : Value) → Has (values_in n t) v → IsValue n v
of_type n t (number k) h = tt
of_type n t (constant c) h = tt
of_type n t (scalar u k) h = (t, h)
of_type n t (ordinal u k) h = (t, h)

module _ (n : Numbered) (types : Name → AbsType) (spots : Placing) (facts : ArePlaced n (world n types) spots) where
  -- a value whose place is of a type is of this type
  pub back : (t : FlatSimple) (v : Value) → IsValue n v → Has (places_in (world n types) t) (placed spots v) → Has (values_in n t) v
  back t (number k) known h = number_stays (world n types) n.sizes (simple_in n t) k h
  back t (constant c) known h = constant_stays (world n types) n.sizes (simple_in n t) c h
  back t (scalar u k) known h =
      let here = is_scalarset (simple_in n t) u k (placed_sort spots (simple_in n t) (scalar u k) (place_sort (world n types) (simple_in n t) (placed spots (scalar u k)) h)) in
      let there = is_scalarset (simple_in n known.0) u k (sort_of n.sizes (simple_in n known.0) (scalar u k) known.1) in
      subst (λ s. Has (values_of n.sizes s) (scalar u k)) (there ∙ sym here) known.1
  back t (ordinal u k) known h =
      let here = is_ordset (simple_in n t) u k (placed_sort spots (simple_in n t) (ordinal u k) (place_sort (world n types) (simple_in n t) (placed spots (ordinal u k)) h)) in
      let there = is_ordset (simple_in n known.0) u k (sort_of n.sizes (simple_in n known.0) (ordinal u k) known.1) in
      subst (λ s. Has (values_of n.sizes s) (ordinal u k)) (there ∙ sym here) known.1

  -- a value is of a type exactly where its place is
  pub same_in : (t : FlatSimple) (v : Value) → IsValue n v → is_in (values_in n t) v ≡ is_among (places_in (world n types) t) (placed spots v)
  same_in t v known = same_tests (is_in (values_in n t) v) (is_among (places_in (world n types) t) (placed spots v))
      (λ e. is_among-Has ((facts t).is_somewhere v (Has-is_in (values_in n t) v e)))
      (λ e. is_in-Has (back t v known (Has-is_among (places_in (world n types) t) (placed spots v) e)))

  -- the second value is of the type of the first
  one_scalarset : (t u : Name) (k l : ℕ) → bytes_eq t u ≡ true → IsValue n (scalar t k) → IsValue n (scalar u l) →
      (s : FlatSimple) × Has (values_in n s) (scalar t k) × Has (values_in n s) (scalar u l)
  one_scalarset t u k l e (s, h) (r, g) =
      let first_is = is_scalarset (simple_in n s) t k (sort_of n.sizes (simple_in n s) (scalar t k) h) in
      let second_is = is_scalarset (simple_in n r) u l (sort_of n.sizes (simple_in n r) (scalar u l) g) in
      (s, h, subst (λ x. Has (values_of n.sizes x) (scalar u l)) (second_is ∙ (ap scalarset (sym ((bytes_eq-Decides t u).0 e)) ∙ sym first_is)) g)

  one_ordset : (t u : Name) (k l : ℕ) → bytes_eq t u ≡ true → IsValue n (ordinal t k) → IsValue n (ordinal u l) →
      (s : FlatSimple) × Has (values_in n s) (ordinal t k) × Has (values_in n s) (ordinal u l)
  one_ordset t u k l e (s, h) (r, g) =
      let first_is = is_ordset (simple_in n s) t k (sort_of n.sizes (simple_in n s) (ordinal t k) h) in
      let second_is = is_ordset (simple_in n r) u l (sort_of n.sizes (simple_in n r) (ordinal u l) g) in
      (s, h, subst (λ x. Has (values_of n.sizes x) (ordinal u l)) (second_is ∙ (ap ordset (sym ((bytes_eq-Decides t u).0 e)) ∙ sym first_is)) g)

  pub equal_values : (u v : Value) → IsValue n u → IsValue n v → Has (equal_places (placed spots u) (placed spots v)) (Some (same u v))
  equal_values (number k) (number l) p q = first
  equal_values (number k) (constant d) p q = first
  equal_values (number k) (scalar u l) p q = apart (λ c. number k) (scalar u) (λ c d. refl) (class 0) (spots u l)
  equal_values (number k) (ordinal u l) p q = apart (λ c. number k) (ordinal u) (λ c d. refl) (class 0) (spots u l)
  equal_values (constant c) (number l) p q = first
  equal_values (constant c) (constant d) p q = first
  equal_values (constant c) (scalar u l) p q = apart (λ k. constant c) (scalar u) (λ c d. refl) (class 0) (spots u l)
  equal_values (constant c) (ordinal u l) p q = apart (λ k. constant c) (ordinal u) (λ c d. refl) (class 0) (spots u l)
  equal_values (scalar t k) (number l) p q = apart (scalar t) (λ d. number l) (λ c d. refl) (spots t k) (class 0)
  equal_values (scalar t k) (constant e) p q = apart (scalar t) (λ d. constant e) (λ c d. refl) (spots t k) (class 0)
  equal_values (scalar t k) (ordinal u l) p q = apart (scalar t) (ordinal u) (λ c d. refl) (spots t k) (spots u l)
  equal_values (ordinal t k) (number l) p q = apart (ordinal t) (λ d. number l) (λ c d. refl) (spots t k) (class 0)
  equal_values (ordinal t k) (constant e) p q = apart (ordinal t) (λ d. constant e) (λ c d. refl) (spots t k) (class 0)
  equal_values (ordinal t k) (scalar u l) p q = apart (ordinal t) (scalar u) (λ c d. refl) (spots t k) (spots u l)
  equal_values (scalar t k) (scalar u l) p q = elim (cases_Bool (bytes_eq t u)) [
    | inl e ↦ let r = one_scalarset t u k l e p q in (facts r.0).equality (scalar t k) (scalar u l) r.1 r.2
    | inr e ↦ subst (λ b. Has (equal_places (placed spots (scalar t k)) (placed spots (scalar u l))) (Some (b && nat_eq k l))) (sym e) (apart (scalar t) (scalar u) (λ c d. rw e refl) (spots t k) (spots u l))
  ]
  equal_values (ordinal t k) (ordinal u l) p q = elim (cases_Bool (bytes_eq t u)) [
    | inl e ↦ let r = one_ordset t u k l e p q in (facts r.0).equality (ordinal t k) (ordinal u l) r.1 r.2
    | inr e ↦ subst (λ b. Has (equal_places (placed spots (ordinal t k)) (placed spots (ordinal u l))) (Some (b && nat_eq k l))) (sym e) (apart (ordinal t) (ordinal u) (λ c d. rw e refl) (spots t k) (spots u l))
  ]

  below_values : (u v : Value) → IsValue n u → IsValue n v → Has (below_places (placed spots u) (placed spots v)) (below (Some u) (Some v))
  below_values (number k) (number l) p q = first
  below_values (number k) (constant d) p q = first
  below_values (number k) (scalar u l) p q = unordered (λ c. number k) (scalar u) (λ c d. refl) (λ c d. refl) (class 0) (spots u l)
  below_values (number k) (ordinal u l) p q = unordered (λ c. number k) (ordinal u) (λ c d. refl) (λ c d. refl) (class 0) (spots u l)
  below_values (constant c) (number l) p q = first
  below_values (constant c) (constant d) p q = first
  below_values (constant c) (scalar u l) p q = unordered (λ k. constant c) (scalar u) (λ c d. refl) (λ c d. refl) (class 0) (spots u l)
  below_values (constant c) (ordinal u l) p q = unordered (λ k. constant c) (ordinal u) (λ c d. refl) (λ c d. refl) (class 0) (spots u l)
  below_values (scalar t k) (number l) p q = unordered (scalar t) (λ d. number l) (λ c d. refl) (λ c d. refl) (spots t k) (class 0)
  below_values (scalar t k) (constant e) p q = unordered (scalar t) (λ d. constant e) (λ c d. refl) (λ c d. refl) (spots t k) (class 0)
  below_values (scalar t k) (scalar u l) p q = unordered (scalar t) (scalar u) (λ c d. refl) (λ c d. refl) (spots t k) (spots u l)
  below_values (scalar t k) (ordinal u l) p q = unordered (scalar t) (ordinal u) (λ c d. refl) (λ c d. refl) (spots t k) (spots u l)
  below_values (ordinal t k) (number l) p q = unordered (ordinal t) (λ d. number l) (λ c d. refl) (λ c d. refl) (spots t k) (class 0)
  below_values (ordinal t k) (constant e) p q = unordered (ordinal t) (λ d. constant e) (λ c d. refl) (λ c d. refl) (spots t k) (class 0)
  below_values (ordinal t k) (scalar u l) p q = unordered (ordinal t) (scalar u) (λ c d. refl) (λ c d. refl) (spots t k) (spots u l)
  below_values (ordinal t k) (ordinal u l) p q = elim (cases_Bool (bytes_eq t u)) [
    | inl e ↦ let r = one_ordset t u k l e p q in (facts r.0).order (ordinal t k) (ordinal u l) r.1 r.2
    | inr e ↦ subst (λ b. Has (below_places (placed spots (ordinal t k)) (placed spots (ordinal u l))) (if b then Some (nat_lt k l) else None)) (sym e)
        (unordered (ordinal t) (ordinal u) (λ c d. rw e refl) (λ c d. rw (not_named t u e) refl) (spots t k) (spots u l))
  ]

  pub equal_may : (u v : Outcome) → IsOutcome n u → IsOutcome n v → Has (where_defined equal_places (placed_outcome spots u) (placed_outcome spots v)) (equal u v)
  equal_may None v p q = first
  equal_may (Some u) None p q = first
  equal_may (Some u) (Some v) p q = equal_values u v p q

  below_may : (u v : Outcome) → IsOutcome n u → IsOutcome n v → Has (where_defined below_places (placed_outcome spots u) (placed_outcome spots v)) (below u v)
  below_may None v p q = first
  below_may (Some (number k)) None p q = first
  below_may (Some (constant c)) None p q = first
  below_may (Some (scalar t k)) None p q = first
  below_may (Some (ordinal t k)) None p q = first
  below_may (Some u) (Some v) p q = below_values u v p q

  -- each comparison
  pub compare_may : (op : Op) (u v : Outcome) → IsOutcome n u → IsOutcome n v → Has (may_compare op (placed_outcome spots u) (placed_outcome spots v)) (compare op u v)
  compare_may Equal u v p q = equal_may u v p q
  compare_may Differ u v p q = Has-map not_of (equal_may u v p q)
  compare_may Less u v p q = below_may u v p q
  compare_may AtMost u v p q = Has-map not_of (below_may v u q p)
  compare_may Greater u v p q = below_may v u q p
  compare_may AtLeast u v p q = Has-map not_of (below_may u v p q)
