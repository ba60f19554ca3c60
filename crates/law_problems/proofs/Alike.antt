-- Places compare as they are written.
use Rattle.std.proofs.Common.{◌≡◌, ℕ, suc, List, [], ◌∷◌, map, get_or, Bool, true, false, not, if◌then◌else◌, refl, sym, ap, subst, ◌∙◌, ◌⊎◌, inl, inr, Option, Some, None, option_map, nat_eq, nat_lt}
use Rattle.std.specs.Prelude.{unwrap_or}
use Rattle.std.specs.List.{slice_get}
use Rattle.std.specs.Str.{bytes_eq}
use Rattle.std.proofs.lemmas.Slice.Eq.{bytes_eq-Decides}
use Rattle.law_lists.proofs.Options.{some_is}
use Rattle.law_lists.proofs.Numbers.{nat_eq-is}
use Rattle.law_lists.proofs.Booleans.{same_tests}
use Rattle.smv_core.specs.Values.{Name, Value, number, constant, scalar, ordinal, Truth, same, below, not_of, numbers_from}
use Rattle.smv_core.specs.FlatMeaning.{Numbered, simple_in}
use Rattle.smv_core.specs.Values as values
use Rattle.smv_core.specs.FlatMeaning as flat
use Rattle.smv_core.specs.declared.flat.Simple.{Simple}
use Rattle.smv_core.specs.declared.flat.Simple.TheVariants.{Range, Enum, Set}
use Rattle.smv_core.specs.declared.flat.SetInfo.{SetInfo}
use Rattle.law_obligations.specs.Sets.{Has}
use Rattle.law_obligations.specs.Places.{Place, named, rest, World, rests_beside, places_of, places_in, named_of, unsure, same_place, equal_places, below_places}
use Rattle.law_obligations.proofs.Members.{Has-cases, Has-from_map, Has-uncons}
use Rattle.law_obligations.proofs.Same.{nat_eq-itself}
use Rattle.law_obligations.specs.Outlines.{place_of}
use Rattle.law_designs.specs.FlatKinds.{FlatKind, enumeration, set_type, kind_of, joins}
use Rattle.law_designs.specs.FlatKinds as kind
use Rattle.smv_problem.specs.declared.problem.AbsValue.{AbsValue}
use Rattle.smv_problem.specs.declared.problem.AbsValue.TheVariants as value
use Rattle.smv_problem.specs.Written.{written_place}
use Rattle.law_problems.specs.Values.{value_in, IsPlaceOf, a_number, a_constant, a_class, a_rest, same_value, equal_values, below_values}
use Rattle.law_problems.specs.ValueLaws.{AreAllDistinct, IsOrdered}

-- ---- places of types

module _ (w : World) where
  by_set : (set : ℕ) (o : Option SetInfo) → slice_get w.classes.sets set ≡ o → (p : Place) → Has (places_of w (flat.set_type o)) p → IsPlaceOf w.classes (set_type set) p
  by_set set None e p h = elim h [ ]
  by_set set (Some info) e p h = by_order info.ordered refl h
    where
      class_of : (f : ℕ → Value) → ((m : ℕ) → f m ≡ value_in info m) → Has (map named (map f (numbers_from 0 (w.classes.sizes info.name)))) p → IsPlaceOf w.classes (set_type set) p
      class_of f is h =
          let r = Has-from_map named (map f (numbers_from 0 (w.classes.sizes info.name))) h in
          let q = Has-from_map f (numbers_from 0 (w.classes.sizes info.name)) r.1 in
          subst (IsPlaceOf w.classes (set_type set)) (sym (r.2 ∙ ap named (q.2 ∙ is q.0))) (a_class set info e q.0)

      rest_of : (f : ℕ → Value) → ((m : ℕ) → f m ≡ value_in info m) → Has (map (λ g. rest (f g)) (rests_beside (w.rests info.name) (w.classes.sizes info.name))) p → IsPlaceOf w.classes (set_type set) p
      rest_of f is h =
          let r = Has-from_map (λ g. rest (f g)) (rests_beside (w.rests info.name) (w.classes.sizes info.name)) h in
          subst (IsPlaceOf w.classes (set_type set)) (sym (r.2 ∙ ap rest (is r.0))) (a_rest set info e r.0)

      by_order : (b : Bool) → info.ordered ≡ b → Has (places_of w (if b then values.ordset info.name else values.scalarset info.name)) p → IsPlaceOf w.classes (set_type set) p
      by_order true o h = elim (Has-cases (map named (map (ordinal info.name) (numbers_from 0 (w.classes.sizes info.name)))) (map (λ g. rest (ordinal info.name g)) (rests_beside (w.rests info.name) (w.classes.sizes info.name))) h) [
        | inl l ↦ class_of (ordinal info.name) (λ m. ap (λ (b : Bool). if b then ordinal info.name m else scalar info.name m) (sym o)) l
        | inr r ↦ rest_of (ordinal info.name) (λ m. ap (λ (b : Bool). if b then ordinal info.name m else scalar info.name m) (sym o)) r
      ]
      by_order false o h = elim (Has-cases (map named (map (scalar info.name) (numbers_from 0 (w.classes.sizes info.name)))) (map (λ g. rest (scalar info.name g)) (rests_beside (w.rests info.name) (w.classes.sizes info.name))) h) [
        | inl l ↦ class_of (scalar info.name) (λ m. ap (λ (b : Bool). if b then ordinal info.name m else scalar info.name m) (sym o)) l
        | inr r ↦ rest_of (scalar info.name) (λ m. ap (λ (b : Bool). if b then ordinal info.name m else scalar info.name m) (sym o)) r
      ]

  pub have_kinds : (t : Simple) (p : Place) → Has (places_in w t) p → IsPlaceOf w.classes (kind_of t) p
  have_kinds (Range low high) p h = elim (Has-cases (named_of w (simple_in w.classes (Range low high))) [] h) [
    | inl l ↦
        let r = Has-from_map named (map number (numbers_from low _)) l in
        let q = Has-from_map number (numbers_from low _) r.1 in
        subst (IsPlaceOf w.classes kind.number) (sym (r.2 ∙ ap named q.2)) (a_number q.0)
    | inr k ↦ elim k [ ]
  ]
  have_kinds (Enum list) p h = elim (Has-cases (named_of w (simple_in w.classes (Enum list))) [] h) [
    | inl l ↦
        let r = Has-from_map named (map constant (get_or w.classes.enums list [])) l in
        let q = Has-from_map constant (get_or w.classes.enums list []) r.1 in
        subst (IsPlaceOf w.classes (enumeration list)) (sym (r.2 ∙ ap named q.2)) (a_constant list q.0 q.1)
    | inr k ↦ elim k [ ]
  ]
  have_kinds (Set set) p h = by_set set (slice_get w.classes.sets set) refl p h

-- ---- constants by their places

abbrev at_name : List Name → Name → Option ℕ
at_name names name = place_of (bytes_eq name) names

found : (names : List Name) (name : Name) → Has names name → (k : ℕ) × (at_name names name ≡ Some k)
found [] name h = elim h [ ]
found (x ∷ names) name h = at (bytes_eq name x) refl (Has-uncons h) (λ k. found names name k)
  where
    at : (b : Bool) → bytes_eq name x ≡ b → (name ≡ x) ⊎ Has names name → (Has names name → (k : ℕ) × (at_name names name ≡ Some k)) → (k : ℕ) × ((if b then Some 0 else option_map (λ k. suc k) (at_name names name)) ≡ Some k)
    at true e h goes = (0, refl)
    at false e (inl same) goes = absurd (clash ((bytes_eq-Decides name x).1 same) e)
      where
        clash : {b : Bool} → b ≡ true → b ≡ false → ⊥
        clash p q = cc
    at false e (inr h) goes = let r = goes h in (suc r.0, ap (option_map (λ k. suc k)) r.1)

get_at : (names : List Name) (name : Name) (k : ℕ) → at_name names name ≡ Some k → slice_get names k ≡ Some name
get_at [] name k e = absurd (cc)
get_at (x ∷ names) name k e = at (bytes_eq name x) refl (at_name names name) e (λ j i. get_at names name j i)
  where
    step : (o : Option ℕ) → option_map (λ k. suc k) o ≡ Some k → ((j : ℕ) → o ≡ Some j → slice_get names j ≡ Some name) → slice_get (x ∷ names) k ≡ Some name
    step None e goes = absurd (cc)
    step (Some j) e goes = subst (λ k. slice_get (x ∷ names) k ≡ Some name) (some_is e) (goes j refl)

    at : (b : Bool) → bytes_eq name x ≡ b → (o : Option ℕ) → (if b then Some 0 else option_map (λ k. suc k) o) ≡ Some k → ((j : ℕ) → o ≡ Some j → slice_get names j ≡ Some name) → slice_get (x ∷ names) k ≡ Some name
    at true i o e goes = subst (λ k. slice_get (x ∷ names) k ≡ Some name) (some_is e) (ap Some (sym ((bytes_eq-Decides name x).0 i)))
    at false i o e goes = step o e goes

abbrev place_in : List Name → Name → ℕ
place_in names name = unwrap_or (at_name names name) 0

constants_alike : (names : List Name) (a b : Name) → Has names a → Has names b → bytes_eq a b ≡ nat_eq (place_in names a) (place_in names b)
constants_alike names a b h k =
    let x = found names a h in
    let y = found names b k in
    same_tests (bytes_eq a b) (nat_eq (place_in names a) (place_in names b))
    (λ e. subst (λ b. nat_eq (place_in names a) (place_in names b) ≡ true) ((bytes_eq-Decides a b).0 e) (nat_eq-itself (place_in names a)))
    (λ e.
    let px : place_in names a ≡ x.0 = ap (λ o. unwrap_or o 0) x.1 in
    let py : place_in names b ≡ y.0 = ap (λ o. unwrap_or o 0) y.1 in
    let same_place : x.0 ≡ y.0 = sym px ∙ (nat_eq-is (place_in names a) (place_in names b) e ∙ py) in
    (bytes_eq-Decides a b).1 (some_is (sym (get_at names a x.0 x.1) ∙ (ap (slice_get names) same_place ∙ get_at names b y.0 y.1))))

-- ---- values of one set type

itself : (t : Name) → bytes_eq t t ≡ true
itself t = (bytes_eq-Decides t t).1 refl

same_values : (info : SetInfo) (k l : ℕ) → same (value_in info k) (value_in info l) ≡ nat_eq k l
same_values info k l = at info.ordered
  where
    at : (b : Bool) → same (if b then ordinal info.name k else scalar info.name k) (if b then ordinal info.name l else scalar info.name l) ≡ nat_eq k l
    at true = rw (itself info.name) refl
    at false = rw (itself info.name) refl

below_ordered : (info : SetInfo) (k l : ℕ) → info.ordered ≡ true → below (Some (value_in info k)) (Some (value_in info l)) ≡ Some (nat_lt k l)
below_ordered info k l e =
    ap (λ (b : Bool). below (Some (if b then ordinal info.name k else scalar info.name k)) (Some (if b then ordinal info.name l else scalar info.name l))) e ∙ rw (itself info.name) refl

written_class : (n : Numbered) (set : ℕ) (info : SetInfo) (m : ℕ) → written_place n (set_type set) (named (value_in info m)) ≡ value.Named m
written_class n set info m = at info.ordered
  where
    at : (b : Bool) → written_place n (set_type set) (named (if b then ordinal info.name m else scalar info.name m)) ≡ value.Named m
    at true = refl
    at false = refl

written_rest : (n : Numbered) (set : ℕ) (info : SetInfo) (g : ℕ) → written_place n (set_type set) (rest (value_in info g)) ≡ value.Rest g
written_rest n set info g = at info.ordered
  where
    at : (b : Bool) → written_place n (set_type set) (rest (if b then ordinal info.name g else scalar info.name g)) ≡ value.Rest g
    at true = refl
    at false = refl

number_same : (k : ℕ) (info : SetInfo) (m : ℕ) → same (number k) (value_in info m) ≡ false
number_same k info m = at info.ordered
  where
    at : (b : Bool) → same (number k) (if b then ordinal info.name m else scalar info.name m) ≡ false
    at true = refl
    at false = refl

same_number : (k : ℕ) (info : SetInfo) (m : ℕ) → same (value_in info m) (number k) ≡ false
same_number k info m = at info.ordered
  where
    at : (b : Bool) → same (if b then ordinal info.name m else scalar info.name m) (number k) ≡ false
    at true = refl
    at false = refl

number_below : (k : ℕ) (info : SetInfo) (m : ℕ) → below (Some (number k)) (Some (value_in info m)) ≡ None
number_below k info m = at info.ordered
  where
    at : (b : Bool) → below (Some (number k)) (Some (if b then ordinal info.name m else scalar info.name m)) ≡ None
    at true = refl
    at false = refl

below_number : (k : ℕ) (info : SetInfo) (m : ℕ) → below (Some (value_in info m)) (Some (number k)) ≡ None
below_number k info m = at info.ordered
  where
    at : (b : Bool) → below (Some (if b then ordinal info.name m else scalar info.name m)) (Some (number k)) ≡ None
    at true = refl
    at false = refl

-- ---- each pair of places

-- what is said of written values, where they are written so
written : {R : Type 0} (f : AbsValue → AbsValue → R) {v v' w w' : AbsValue} → v ≡ v' → w ≡ w' → f v' w' ≡ f v w
written f {v} {v'} {w} {w'} e g = sym (ap (λ x. f x w) e ∙ ap (f v') g)

one_info : (n : Numbered) (set other : ℕ) (info jnfo : SetInfo) → nat_eq set other ≡ true → slice_get n.sets set ≡ Some info → slice_get n.sets other ≡ Some jnfo → info ≡ jnfo
one_info n set other info jnfo j e f = some_is (sym e ∙ (ap (slice_get n.sets) (nat_eq-is set other j) ∙ f))

names_of : (n : Numbered) → AreAllDistinct n → (list other : ℕ) (a b : Name) → nat_eq list other ≡ true → Has (get_or n.enums list []) a → Has (get_or n.enums other []) b →
    bytes_eq a b ≡ nat_eq (place_in (get_or n.enums list []) a) (place_in (get_or n.enums other []) b)
names_of n d list other a b j h k =
    let same : other ≡ list = sym (nat_eq-is list other j) in
    constants_alike (get_or n.enums list []) a b h (subst (λ (l : ℕ). Has (get_or n.enums l []) b) same k)
    ∙ ap (λ (l : ℕ). nat_eq (place_in (get_or n.enums list []) a) (place_in (get_or n.enums l []) b)) (sym same)

classes_of : (info jnfo : SetInfo) → info ≡ jnfo → (k l : ℕ) → same (value_in info k) (value_in jnfo l) ≡ nat_eq k l
classes_of info jnfo e k l = ap (λ (i : SetInfo). same (value_in info k) (value_in i l)) (sym e) ∙ same_values info k l

pub alike : (n : Numbered) → AreAllDistinct n → (j k : FlatKind) → joins j k ≡ true → (p q : Place) → IsPlaceOf n j p → IsPlaceOf n k q → same_place p q ≡ same_value (written_place n j p) (written_place n k q)
alike n d _ _ joined _ _ (a_number k) (a_number l) = refl
alike n d _ _ joined _ _ (a_number k) (a_constant list b h) = absurd (cc)
alike n d _ _ joined _ _ (a_number k) (a_class set info e m) = number_same k info m ∙ written same_value {v = value.Number k} refl (written_class n set info m)
alike n d _ _ joined _ _ (a_number k) (a_rest set info e g) = written same_value {v = value.Number k} refl (written_rest n set info g)
alike n d _ _ joined _ _ (a_constant list a h) (a_number l) = absurd (cc)
alike n d _ _ joined _ _ (a_constant list a h) (a_constant other b k) = names_of n d list other a b joined h k
alike n d _ _ joined _ _ (a_constant list a h) (a_class set info e m) = absurd (cc)
alike n d _ _ joined _ _ (a_constant list a h) (a_rest set info e g) = absurd (cc)
alike n d _ _ joined _ _ (a_class set info e m) (a_number l) = same_number l info m ∙ written same_value {w = value.Number l} (written_class n set info m) refl
alike n d _ _ joined _ _ (a_class set info e m) (a_constant list b h) = absurd (cc)
alike n d _ _ joined _ _ (a_class set info e m) (a_class other jnfo f l) = classes_of info jnfo (one_info n set other info jnfo joined e f) m l ∙ written same_value (written_class n set info m) (written_class n other jnfo l)
alike n d _ _ joined _ _ (a_class set info e m) (a_rest other jnfo f g) = written same_value (written_class n set info m) (written_rest n other jnfo g)
alike n d _ _ joined _ _ (a_rest set info e g) (a_number l) = written same_value {w = value.Number l} (written_rest n set info g) refl
alike n d _ _ joined _ _ (a_rest set info e g) (a_constant list b h) = absurd (cc)
alike n d _ _ joined _ _ (a_rest set info e g) (a_class other jnfo f l) = written same_value (written_rest n set info g) (written_class n other jnfo l)
alike n d _ _ joined _ _ (a_rest set info e g) (a_rest other jnfo f l) = classes_of info jnfo (one_info n set other info jnfo joined e f) g l ∙ written same_value (written_rest n set info g) (written_rest n other jnfo l)

abbrev sure : Bool → List Truth
sure b = Some b ∷ []

abbrev of_rests : Bool → List Truth
of_rests b = if b then unsure (Some true) else Some false ∷ []

pub equal_as_written : (n : Numbered) → AreAllDistinct n → (j k : FlatKind) → joins j k ≡ true → (p q : Place) → IsPlaceOf n j p → IsPlaceOf n k q → equal_places p q ≡ equal_values (written_place n j p) (written_place n k q)
equal_as_written n d _ _ joined _ _ (a_number k) (a_number l) = refl
equal_as_written n d _ _ joined _ _ (a_number k) (a_constant list b h) = absurd (cc)
equal_as_written n d _ _ joined _ _ (a_number k) (a_class set info e m) = ap sure (number_same k info m) ∙ written equal_values {v = value.Number k} refl (written_class n set info m)
equal_as_written n d _ _ joined _ _ (a_number k) (a_rest set info e g) = written equal_values {v = value.Number k} refl (written_rest n set info g)
equal_as_written n d _ _ joined _ _ (a_constant list a h) (a_number l) = absurd (cc)
equal_as_written n d _ _ joined _ _ (a_constant list a h) (a_constant other b k) = ap sure (names_of n d list other a b joined h k)
equal_as_written n d _ _ joined _ _ (a_constant list a h) (a_class set info e m) = absurd (cc)
equal_as_written n d _ _ joined _ _ (a_constant list a h) (a_rest set info e g) = absurd (cc)
equal_as_written n d _ _ joined _ _ (a_class set info e m) (a_number l) = ap sure (same_number l info m) ∙ written equal_values {w = value.Number l} (written_class n set info m) refl
equal_as_written n d _ _ joined _ _ (a_class set info e m) (a_constant list b h) = absurd (cc)
equal_as_written n d _ _ joined _ _ (a_class set info e m) (a_class other jnfo f l) =
    ap sure (classes_of info jnfo (one_info n set other info jnfo joined e f) m l) ∙ written equal_values (written_class n set info m) (written_class n other jnfo l)
equal_as_written n d _ _ joined _ _ (a_class set info e m) (a_rest other jnfo f g) = written equal_values (written_class n set info m) (written_rest n other jnfo g)
equal_as_written n d _ _ joined _ _ (a_rest set info e g) (a_number l) = written equal_values {w = value.Number l} (written_rest n set info g) refl
equal_as_written n d _ _ joined _ _ (a_rest set info e g) (a_constant list b h) = absurd (cc)
equal_as_written n d _ _ joined _ _ (a_rest set info e g) (a_class other jnfo f l) = written equal_values (written_rest n set info g) (written_class n other jnfo l)
equal_as_written n d _ _ joined _ _ (a_rest set info e g) (a_rest other jnfo f l) =
    ap of_rests (classes_of info jnfo (one_info n set other info jnfo joined e f) g l) ∙ written equal_values (written_rest n set info g) (written_rest n other jnfo l)

orders_of : (info jnfo : SetInfo) → info ≡ jnfo → info.ordered ≡ true → (k l : ℕ) → below (Some (value_in info k)) (Some (value_in jnfo l)) ≡ Some (nat_lt k l)
orders_of info jnfo e o k l = ap (λ (i : SetInfo). below (Some (value_in info k)) (Some (value_in i l))) (sym e) ∙ below_ordered info k l o

orders_back : (info jnfo : SetInfo) → info ≡ jnfo → info.ordered ≡ true → (k l : ℕ) → below (Some (value_in jnfo k)) (Some (value_in info l)) ≡ Some (nat_lt k l)
orders_back info jnfo e o k l = ap (λ (i : SetInfo). below (Some (value_in i k)) (Some (value_in info l))) (sym e) ∙ below_ordered info k l o

abbrev one : Truth → List Truth
one u = u ∷ []

not_some : (b : Bool) → not_of (Some b) ≡ Some (not b)
not_some true = refl
not_some false = refl

pub below_as_written : (n : Numbered) → (j k : FlatKind) → joins j k ≡ true → IsOrdered n j → IsOrdered n k → (p q : Place) → IsPlaceOf n j p → IsPlaceOf n k q → below_places p q ≡ below_values (written_place n j p) (written_place n k q)
below_as_written n _ _ joined oj ok _ _ (a_number k) (a_number l) = refl
below_as_written n _ _ joined oj ok _ _ (a_number k) (a_constant list b h) = absurd (cc)
below_as_written n _ _ joined oj ok _ _ (a_number k) (a_class set info e m) = ap one (number_below k info m) ∙ written below_values {v = value.Number k} refl (written_class n set info m)
below_as_written n _ _ joined oj ok _ _ (a_number k) (a_rest set info e g) = ap one (number_below k info g) ∙ written below_values {v = value.Number k} refl (written_rest n set info g)
below_as_written n _ _ joined oj ok _ _ (a_constant list a h) (a_number l) = absurd (cc)
below_as_written n _ _ joined oj ok _ _ (a_constant list a h) (a_constant other b k) = refl
below_as_written n _ _ joined oj ok _ _ (a_constant list a h) (a_class set info e m) = absurd (cc)
below_as_written n _ _ joined oj ok _ _ (a_constant list a h) (a_rest set info e g) = absurd (cc)
below_as_written n _ _ joined oj ok _ _ (a_class set info e m) (a_number l) = ap one (below_number l info m) ∙ written below_values {w = value.Number l} (written_class n set info m) refl
below_as_written n _ _ joined oj ok _ _ (a_class set info e m) (a_constant list b h) = absurd (cc)
below_as_written n _ _ joined oj ok _ _ (a_class set info e m) (a_class other jnfo f l) =
    ap one (orders_of info jnfo (one_info n set other info jnfo joined e f) (oj set refl info e) m l) ∙ written below_values (written_class n set info m) (written_class n other jnfo l)
below_as_written n _ _ joined oj ok _ _ (a_class set info e m) (a_rest other jnfo f g) =
    ap one (orders_of info jnfo (one_info n set other info jnfo joined e f) (oj set refl info e) m g) ∙ written below_values (written_class n set info m) (written_rest n other jnfo g)
below_as_written n _ _ joined oj ok _ _ (a_rest set info e g) (a_number l) = ap (λ u. one (not_of u)) (number_below l info g) ∙ written below_values {w = value.Number l} (written_rest n set info g) refl
below_as_written n _ _ joined oj ok _ _ (a_rest set info e g) (a_constant list b h) = absurd (cc)
below_as_written n _ _ joined oj ok _ _ (a_rest set info e g) (a_class other jnfo f l) =
    ap (λ u. one (not_of u)) (orders_back info jnfo (one_info n set other info jnfo joined e f) (oj set refl info e) l g)
    ∙ (ap one (not_some (nat_lt l g)) ∙ written below_values (written_rest n set info g) (written_class n other jnfo l))
below_as_written n _ _ joined oj ok _ _ (a_rest set info e g) (a_rest other jnfo f l) =
    let i = one_info n set other info jnfo joined e f in
    ap (λ b. if b then unsure (below (Some (value_in info g)) (Some (value_in jnfo l))) else below (Some (value_in info g)) (Some (value_in jnfo l)) ∷ []) (classes_of info jnfo i g l)
    ∙ (ap (λ u. if nat_eq g l then unsure u else u ∷ []) (orders_of info jnfo i (oj set refl info e) g l) ∙ written below_values (written_rest n set info g) (written_rest n other jnfo l))
