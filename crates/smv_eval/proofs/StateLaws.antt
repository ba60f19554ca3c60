-- States by numbers are those of each case that is written so.
use Rattle.std.proofs.Common.{◌≡◌, ℕ, ◌+◌, ◌-◌, List, [], ◌∷◌, ◌++◌, map, length, get_or, Bool, true, false, ◌&&◌, ◌||◌, if◌then◌else◌, refl, sym, ap, subst, ◌∙◌, ◌⊎◌, inl, inr, Option, Some, None, nat_eq, nat_le, nat_lt, arith}
use Rattle.std.specs.Prelude.{◌↔◌, IsTrue, unwrap_or}
use Rattle.std.specs.List.{slice_get, list_any}
use Rattle.std.proofs.lemmas.Bool.{cases_Bool}
use Rattle.law_lists.proofs.Booleans.{and_both, left_of, right_of, same_tests}
use Rattle.law_lists.proofs.Options.{some_is}
use Rattle.law_lists.proofs.Numbers.{nat_lt-is, nat_le-is, nat_lt-true, nat_le-true}
use Rattle.law_lists.proofs.Lists.{nothing_behind}
use Rattle.smv_core.specs.Values.{Name, number, numbers_from}
use Rattle.smv_core.specs.FlatMeaning.{Numbered}
use Rattle.smv_core.specs.declared.flat.Simple.{Simple}
use Rattle.smv_core.specs.declared.flat.Simple.TheVariants.{Range, Enum, Set}
use Rattle.smv_core.specs.declared.flat.Family.{Family}
use Rattle.smv_core.specs.declared.flat.Element.{Element}
use Rattle.smv_core.specs.declared.abstract_type.AbsType.{AbsType}
use Rattle.law_obligations.specs.Sets.{Has, first, later}
use Rattle.law_obligations.specs.Places.{Place, named, World, places_in, rests_beside, AbsOutcome}
use Rattle.law_obligations.specs.May.{AbsState, Kept}
use Rattle.law_obligations.specs.Pictures.{IsAbsState}
use Rattle.law_obligations.specs.Soundness.{over_of}
use Rattle.law_obligations.specs.Covers.{IsIndexType}
use Rattle.law_obligations.proofs.Members.{Has-left, Has-right, Has-cases, Has-map, Has-from_map, any-found}
use Rattle.law_obligations.proofs.Spots.{Has-numbers, numbers-Has}
use Rattle.law_obligations.proofs.OneOfEach.{get_Has}
use Rattle.law_obligations.specs.Cones.{AbsElement, element, same_places, same_element}
use Rattle.law_obligations.proofs.ConeFacts.{same_element-itself}
use Rattle.law_designs.specs.FlatKinds.{kind_of}
use Rattle.law_obligations.specs.Readings.{PosedCase}
use Rattle.law_obligations.proofs.LeastCones.{same_element-is}
use Rattle.law_obligations.proofs.CoverParams.{map-same}
use Rattle.smv_spots.specs.Spots.{place_in, outcome_in, classes_of, rests_of, count_beside}
use Rattle.smv_spots.proofs.TypeLaws.{numbers_beside}
use Rattle.smv_problem.specs.declared.problem.AbsValue.{AbsValue}
use Rattle.smv_problem.specs.declared.problem.AbsValue.TheVariants as value
use Rattle.smv_problem.specs.declared.problem.AbsState.{AbsState as StateData}
use Rattle.smv_problem.specs.declared.problem.Problem.{Problem}
use Rattle.smv_problem.specs.Written.{written, written_class, written_element, written_place, written_state, written_type, kind_in}
use Rattle.smv_problem.specs.WellFormed.{AreApartElements, IsWellFormed, OfCases, OfStates}
use Rattle.smv_readings.specs.States.{values_beside, values_in}
use Rattle.smv_readings.proofs.Written.{values_written}
use Rattle.smv_typed_spots.specs.TypedSpots.{class_spots, value_spot}
use Rattle.smv_typed_spots.proofs.TypedLaws.{classes_placed, value_placed}
use Rattle.smv_problem_spots.specs.Worlds.{IsWorldOf}
use Rattle.law_worlds.proofs.Worlds.{world_of_case}
use Rattle.law_worlds.proofs.Filled.{case_filled}
use Rattle.smv_conditions.specs.declared.stores.Plain.{Plain}
use Rattle.smv_conditions.specs.Offers.{any_offer}
use Rattle.smv_cells.specs.declared.cells.Cell.{Cell}
use Rattle.smv_cells.specs.Cells.{is_cell_of}
use Rattle.smv_cells.specs.Seen.{IsSeen}
use Rattle.smv_eval.specs.States.{type_of, is_value, are_values, state_cell, state_cells, plainly, view_of}

-- ---- values of types by numbers

module _ (p : Problem) where
  class_there : (o : Option AbsType) (k : ℕ) → nat_lt k (classes_of o) ≡ true → Has (values_beside o) (value.Named k)
  class_there None k e = absurd (let l = nat_lt-is k 0 e in omega (arith, l))
  class_there (Some t) k e = let l = nat_lt-is k t.named e in Has-left (map value.Rest (rests_beside t.rest t.named)) (Has-map value.Named (Has-numbers 0 t.named k (omega arith) (omega (arith, l))))

  rest_there : (o : Option AbsType) (g : ℕ) → nat_lt g (rests_of o) ≡ true → Has (values_beside o) (value.Rest g)
  rest_there None g e = absurd (let l = nat_lt-is g 0 e in omega (arith, l))
  rest_there (Some t) g e =
      let l = nat_lt-is g (count_beside t.rest t.named) e in
      Has-right (map value.Named (numbers_from 0 t.named)) (Has-map value.Rest (subst (λ ns. Has ns g) (numbers_beside t.rest t.named) (Has-numbers 0 (count_beside t.rest t.named) g (omega arith) (omega (arith, l)))))

  value_there : (t : Simple) (v : AbsValue) → is_value p t v ≡ true → Has (values_in p.lists p.types t) v
  value_there (Range low high) (value.Number k) e =
      let l = nat_le-is low k (left_of (nat_le low k) (nat_le k high) e) in
      let h = nat_le-is k high (right_of (nat_le low k) (nat_le k high) e) in
      Has-map value.Number (Has-numbers low (high + 1 - low) k l (omega (arith, l, h)))
  value_there (Range low high) (value.Constant k) e = absurd (cc)
  value_there (Range low high) (value.Named k) e = absurd (cc)
  value_there (Range low high) (value.Rest k) e = absurd (cc)
  value_there (Range low high) value.Undefined e = absurd (cc)
  value_there (Enum list) (value.Constant k) e = let l = nat_lt-is k (get_or p.lists list 0) e in Has-map value.Constant (Has-numbers 0 (get_or p.lists list 0) k (omega arith) (omega (arith, l)))
  value_there (Enum list) (value.Number k) e = absurd (cc)
  value_there (Enum list) (value.Named k) e = absurd (cc)
  value_there (Enum list) (value.Rest k) e = absurd (cc)
  value_there (Enum list) value.Undefined e = absurd (cc)
  value_there (Set set) (value.Named k) e = class_there (slice_get p.types set) k e
  value_there (Set set) (value.Rest g) e = rest_there (slice_get p.types set) g e
  value_there (Set set) (value.Number k) e = absurd (cc)
  value_there (Set set) (value.Constant k) e = absurd (cc)
  value_there (Set set) value.Undefined e = absurd (cc)

  of_set : (set : ℕ) (o : Option AbsType) → slice_get p.types set ≡ o → (v : AbsValue) → Has (values_beside o) v → is_value p (Set set) v ≡ true
  of_set set None is v h = elim h [ ]
  of_set set (Some t) is v h = elim (Has-cases (map value.Named (numbers_from 0 t.named)) (map value.Rest (rests_beside t.rest t.named)) h) [
    | inl l ↦
        let r = Has-from_map value.Named (numbers_from 0 t.named) l in
        let b = numbers-Has 0 t.named r.0 r.1 in
        subst (λ v. is_value p (Set set) v ≡ true) (sym r.2) (ap (λ o. nat_lt r.0 (classes_of o)) is ∙ nat_lt-true r.0 t.named (omega (arith, b)))
    | inr l ↦
        let r = Has-from_map value.Rest (rests_beside t.rest t.named) l in
        let b = numbers-Has 0 (count_beside t.rest t.named) r.0 (subst (λ ns. Has ns r.0) (sym (numbers_beside t.rest t.named)) r.1) in
        subst (λ v. is_value p (Set set) v ≡ true) (sym r.2) (ap (λ o. nat_lt r.0 (rests_of o)) is ∙ nat_lt-true r.0 (count_beside t.rest t.named) (omega (arith, b)))
  ]

  there_value : (t : Simple) (v : AbsValue) → Has (values_in p.lists p.types t) v → is_value p t v ≡ true
  there_value (Range low high) v h =
      let r = Has-from_map value.Number (numbers_from low (high + 1 - low)) h in
      let b = numbers-Has low (high + 1 - low) r.0 r.1 in
      subst (λ v. is_value p (Range low high) v ≡ true) (sym r.2) (and_both (nat_le-true low r.0 b.0) (nat_le-true r.0 high (omega (arith, b))))
  there_value (Enum list) v h =
      let r = Has-from_map value.Constant (numbers_from 0 (get_or p.lists list 0)) h in
      let b = numbers-Has 0 (get_or p.lists list 0) r.0 r.1 in
      subst (λ v. is_value p (Enum list) v ≡ true) (sym r.2) (nat_lt-true r.0 (get_or p.lists list 0) (omega (arith, b)))
  there_value (Set set) v h = of_set set (slice_get p.types set) refl v h

-- ---- lists of elements

turned : (x y : AbsElement) → same_element x y ≡ same_element y x
turned x y = same_tests (same_element x y) (same_element y x) (λ e. subst (λ z. same_element z x ≡ true) (same_element-is x y e) (same_element-itself x)) (λ e. subst (λ z. same_element z y ≡ true) (same_element-is y x e) (same_element-itself y))

or_none : (b : Bool) → (b || false) ≡ b
or_none true = refl
or_none false = refl

-- the value of an element of a case is written by its family's kind
abbrev value_of : Numbered → AbsState → AbsElement → AbsValue
value_of n a x = written_place n (kind_in (slice_get n.families x.family)) (a x.family x.indexes)

module _ (c : PosedCase) (well : IsWellFormed c) (p : Problem) (is : p ≡ written c) where
  abbrev w : World
  w = c.problem.world

  abbrev n : Numbered
  n = c.problem.world.classes

  families_are : p.families ≡ n.families
  unfolding written
  families_are = ap (λ (q : Problem). q.families) is

  lists_are : p.lists ≡ map (λ (l : List Name). length l) n.enums
  unfolding written
  lists_are = ap (λ (q : Problem). q.lists) is

  types_are : p.types ≡ map (written_type w) n.sets
  unfolding written
  types_are = ap (λ (q : Problem). q.types) is

  elements_are : p.elements ≡ map written_element c.elements
  unfolding written
  elements_are = ap (λ (q : Problem). q.elements) is

  world_is : IsWorldOf p w
  world_is = subst (λ (q : Problem). IsWorldOf q w) (sym is) (world_of_case c well)

  written_values : (t : Simple) → map (written_place n (kind_of t)) (places_in w t) ≡ values_in p.lists p.types t
  written_values t = values_written w well.constants t ∙ (ap (λ ls. values_in ls (map (written_type w) n.sets) t) (sym lists_are) ∙ ap (λ ts. values_in p.lists ts t) (sym types_are))

  -- a value of a type is that of a place
  value_is : (t : Simple) (v : AbsValue) → is_value p t v ≡ true → (q : Place) × Has (places_in w t) q × (v ≡ written_place n (kind_of t) q)
  value_is t v e = Has-from_map (written_place n (kind_of t)) (places_in w t) (subst (λ vs. Has vs v) (sym (written_values t)) (value_there p t v e))

  place_is : (t : Simple) (q : Place) → Has (places_in w t) q → is_value p t (written_place n (kind_of t) q) ≡ true
  place_is t q h = there_value p t (written_place n (kind_of t) q) (subst (λ vs. Has vs (written_place n (kind_of t) q)) (written_values t) (Has-map (written_place n (kind_of t)) h))

  -- what is known of the elements
  record IsThere (x : AbsElement) : Type 0 where
    f : Family
    is_family : slice_get n.families x.family ≡ Some f

  there : (x : AbsElement) → Has c.elements x → IsThere x
  there x h = let r = well.is_case.have_values x h in record { f = r.0; is_family = r.1 }

  abbrev AllThere : List AbsElement → Type 0
  AllThere xs = (x : AbsElement) → Has xs x → IsThere x

  type_is : (x : AbsElement) (t : IsThere x) → type_of (slice_get p.families x.family) ≡ t.f.value
  type_is x t = ap (λ fs. type_of (slice_get fs x.family)) families_are ∙ ap type_of t.is_family

  kind_is : (x : AbsElement) (t : IsThere x) → kind_in (slice_get n.families x.family) ≡ kind_of t.f.value
  kind_is x t = ap kind_in t.is_family

  -- ---- states from values

  abbrev placed : AbsElement → AbsValue → Place
  placed x v = unwrap_or (outcome_in n (value_spot (type_of (slice_get p.families x.family)) v)) (named (number 0))

  abbrev place_for : List AbsElement → List AbsValue → AbsElement → Place
  place_for [] values y = named (number 0)
  place_for (x ∷ xs) [] y = named (number 0)
  place_for (x ∷ xs) (v ∷ values) y = if same_element y x then placed x v else place_for xs values y

  -- the place of a value
  record IsPlace (x : AbsElement) (t : IsThere x) (v : AbsValue) : Type 0 where
    is_one : Has (places_in w t.f.value) (placed x v)
    is_written : written_place n (kind_in (slice_get n.families x.family)) (placed x v) ≡ v

  place_of_value : (x : AbsElement) (t : IsThere x) (v : AbsValue) → is_value p (type_of (slice_get p.families x.family)) v ≡ true → IsPlace x t v
  place_of_value x t v e =
      let r = value_is t.f.value v (subst (λ over. is_value p over v ≡ true) (type_is x t) e) in
      let at : outcome_in n (value_spot t.f.value v) ≡ Some r.0 = ap (λ v. outcome_in n (value_spot t.f.value v)) r.2 ∙ value_placed w t.f.value r.0 r.1 in
      let same : placed x v ≡ r.0 = ap (λ over. unwrap_or (outcome_in n (value_spot over v)) (named (number 0))) (type_is x t) ∙ ap (λ o. unwrap_or o (named (number 0))) at in
      record {
        is_one = subst (Has (places_in w t.f.value)) (sym same) r.1;
        is_written = ap (λ k. written_place n k (placed x v)) (kind_is x t) ∙ (ap (written_place n (kind_of t.f.value)) same ∙ sym r.2);
      }

  some_place : (xs : List AbsElement) (values : List AbsValue) → AllThere xs → are_values p (map written_element xs) values ≡ true → (y : AbsElement) → list_any (same_element y) xs ≡ true →
      (f : Family) → slice_get n.families y.family ≡ Some f → Has (places_in w f.value) (place_for xs values y)
  some_place [] values all e y k f is = absurd (cc)
  some_place (x ∷ xs) [] all e y k f is = absurd (cc)
  some_place (x ∷ xs) (v ∷ values) all e y k f is =
      at (same_element y x) refl k (λ k. some_place xs values (λ z h. all z (later h)) (right_of (is_value p (type_of (slice_get p.families x.family)) v) (are_values p (map written_element xs) values) e) y k f is)
    where
      t : IsThere x
      t = all x first

      own : same_element y x ≡ true → Has (places_in w f.value) (placed x v)
      own s =
          let same : t.f ≡ f = some_is (sym t.is_family ∙ (ap (λ (z : AbsElement). slice_get n.families z.family) (sym (same_element-is y x s)) ∙ is)) in
          subst (λ (f : Family). Has (places_in w f.value) (placed x v)) same (place_of_value x t v (left_of (is_value p (type_of (slice_get p.families x.family)) v) (are_values p (map written_element xs) values) e)).is_one

      at : (b : Bool) → same_element y x ≡ b → (b || list_any (same_element y) xs) ≡ true → (list_any (same_element y) xs ≡ true → Has (places_in w f.value) (place_for xs values y)) →
          Has (places_in w f.value) (if b then placed x v else place_for xs values y)
      at true s k goes = own s
      at false s k goes = goes k

  no_place : (xs : List AbsElement) (values : List AbsValue) (y : AbsElement) → list_any (same_element y) xs ≡ false → place_for xs values y ≡ named (number 0)
  no_place [] values y k = refl
  no_place (x ∷ xs) [] y k = refl
  no_place (x ∷ xs) (v ∷ values) y k = at (same_element y x) k (λ k. no_place xs values y k)
    where
      at : (b : Bool) → (b || list_any (same_element y) xs) ≡ false → (list_any (same_element y) xs ≡ false → place_for xs values y ≡ named (number 0)) → (if b then placed x v else place_for xs values y) ≡ named (number 0)
      at true k goes = absurd (cc)
      at false k goes = goes k

  values_back : (xs : List AbsElement) (values : List AbsValue) → AllThere xs → AreApartElements xs → are_values p (map written_element xs) values ≡ true →
      map (λ x. written_place n (kind_in (slice_get n.families x.family)) (place_for xs values x)) xs ≡ values
  values_back [] [] all apart e = refl
  values_back [] (v ∷ values) all apart e = absurd (cc)
  values_back (x ∷ xs) [] all apart e = absurd (cc)
  values_back (x ∷ xs) (v ∷ values) all apart e =
      ap (λ u. u ∷ map (λ y. written_place n (kind_in (slice_get n.families y.family)) (place_for (x ∷ xs) (v ∷ values) y)) xs) own
      ∙ ap (λ us. v ∷ us)
      (map-same (λ y. written_place n (kind_in (slice_get n.families y.family)) (place_for (x ∷ xs) (v ∷ values) y)) (λ y. written_place n (kind_in (slice_get n.families y.family)) (place_for xs values y)) xs other
      ∙ values_back xs values (λ z h. all z (later h)) apart.1 (right_of (is_value p (type_of (slice_get p.families x.family)) v) (are_values p (map written_element xs) values) e))
    where
      own : written_place n (kind_in (slice_get n.families x.family)) (if same_element x x then placed x v else place_for xs values x) ≡ v
      own =
          ap (λ b. written_place n (kind_in (slice_get n.families x.family)) (if b then placed x v else place_for xs values x)) (same_element-itself x)
          ∙ (place_of_value x (all x first) v (left_of (is_value p (type_of (slice_get p.families x.family)) v) (are_values p (map written_element xs) values) e)).is_written

      other : (y : AbsElement) → Has xs y → written_place n (kind_in (slice_get n.families y.family)) (if same_element y x then placed x v else place_for xs values y) ≡ written_place n (kind_in (slice_get n.families y.family)) (place_for xs values y)
      other y h = elim (cases_Bool (same_element y x)) [
        | inl s ↦ absurd (apart.0 y h (sym (same_element-is y x s)))
        | inr s ↦ ap (λ b. written_place n (kind_in (slice_get n.families y.family)) (if b then placed x v else place_for xs values y)) s
      ]

  kept_is : (family : ℕ) (ps : List Place) → c.problem.kept family ps ≡ list_any (same_element (element family ps)) c.elements
  kept_is family ps = ap (λ (k : Kept). k family ps) well.is_case.are_kept

  abbrev state_of : List AbsValue → AbsState
  state_of values family ps = place_for c.elements values (element family ps)

  is_abs_state : (values : List AbsValue) → are_values p (map written_element c.elements) values ≡ true → IsAbsState w c.problem.kept (state_of values)
  is_abs_state values e = record {
    is_somewhere = λ family f is ps k. some_place c.elements values there e (element family ps) (sym (kept_is family ps) ∙ k) f is;
    is_unread = λ family ps k. no_place c.elements values (element family ps) (sym (kept_is family ps) ∙ k);
  }

  -- ---- values from states

  is_kept : (x : AbsElement) → Has c.elements x → c.problem.kept x.family x.indexes ≡ true
  is_kept x h = kept_is x.family x.indexes ∙ any-found (same_element (element x.family x.indexes)) h (same_element-itself x)

  values_of_state : (a : AbsState) → IsAbsState w c.problem.kept a → (xs : List AbsElement) → ((x : AbsElement) → Has xs x → Has c.elements x) → are_values p (map written_element xs) (map (value_of n a) xs) ≡ true
  values_of_state a state [] among = refl
  values_of_state a state (x ∷ xs) among =
      let t = there x (among x first) in
      let q = state.is_somewhere x.family t.f t.is_family x.indexes (is_kept x (among x first)) in
      and_both
      (ap (λ over. is_value p over (value_of n a x)) (type_is x t) ∙ (ap (λ k. is_value p t.f.value (written_place n k (a x.family x.indexes))) (kind_is x t) ∙ place_is t.f.value (a x.family x.indexes) q))
      (values_of_state a state xs (λ y h. among y (later h)))

  -- ---- cells

  indexes_are : (x : AbsElement) → Has c.elements x → map (place_in n) (class_spots (over_of (slice_get p.families x.family)) (map written_class x.indexes)) ≡ x.indexes
  indexes_are x h =
      let t = there x h in
      ap (λ fs. map (place_in n) (class_spots (over_of (slice_get fs x.family)) (map written_class x.indexes))) families_are
      ∙ classes_placed w (over_of (slice_get n.families x.family)) x.indexes
      (subst (λ (o : Option Family). (over : Simple) → Has (over_of o) over → IsIndexType over) (sym t.is_family) (λ over k. well.index_types t.f (get_Has n.families x.family t.f t.is_family) over k))
      (well.indexes x h)

  module _ (a : AbsState) (state : IsAbsState w c.problem.kept a) where
    cell_value : (x : AbsElement) → Has c.elements x → outcome_in n (value_spot (type_of (slice_get p.families x.family)) (value_of n a x)) ≡ Some (a x.family x.indexes)
    cell_value x h =
        let t = there x h in
        let q = state.is_somewhere x.family t.f t.is_family x.indexes (is_kept x h) in
        ap (λ over. outcome_in n (value_spot over (value_of n a x))) (type_is x t)
        ∙ (ap (λ k. outcome_in n (value_spot t.f.value (written_place n k (a x.family x.indexes)))) (kind_is x t) ∙ value_placed w t.f.value (a x.family x.indexes) q)

    cell_values : (s : Plain) (assignment : ℕ → Bool) (q : AbsOutcome → Bool) (x : AbsElement) → Has c.elements x →
        any_offer n plainly s assignment q (state_cell p (written_element x) (value_of n a x)).values ≡ q (Some (a x.family (map (place_in n) (state_cell p (written_element x) (value_of n a x)).indexes)))
    unfolding any_offer
    cell_values s assignment q x h =
        or_none (q (outcome_in n (value_spot (type_of (slice_get p.families x.family)) (value_of n a x))))
        ∙ (ap q (cell_value x h) ∙ ap (λ ps. q (Some (a x.family ps))) (sym (indexes_are x h)))

    cell_from : (xs : List AbsElement) (cell : Cell Bool) → Has (state_cells p (map written_element xs) (map (value_of n a) xs)) cell → (x : AbsElement) × Has xs x × (cell ≡ state_cell p (written_element x) (value_of n a x))
    cell_from [] cell h = elim h [ ]
    cell_from (x ∷ xs) _ first = (x, first, refl)
    cell_from (x ∷ xs) cell (later h) = let r = cell_from xs cell h in (r.0, later r.1, r.2)

    cells_kept : (family : ℕ) (ps : List Place) (xs : List AbsElement) → ((x : AbsElement) → Has xs x → Has c.elements x) →
        list_any (same_element (element family ps)) xs ≡ list_any (is_cell_of n family ps) (state_cells p (map written_element xs) (map (value_of n a) xs))
    cells_kept family ps [] among = refl
    cells_kept family ps (x ∷ xs) among =
        ap (λ b. b || list_any (same_element (element family ps)) xs) (turned (element family ps) x ∙ ap (λ qs. nat_eq x.family family && same_places qs ps) (sym (indexes_are x (among x first))))
        ∙ ap (λ b. is_cell_of n family ps (state_cell p (written_element x) (value_of n a x)) || b) (cells_kept family ps xs (λ y h. among y (later h)))

    seen : (s : Plain) → IsSeen plainly s p (state_cells p (map written_element c.elements) (map (value_of n a) c.elements)) (view_of c a)
    seen s = record {
      view = record { filled = λ assignment e b. case_filled c well a e b };
      world = world_is;
      values = λ assignment q cell h.
          let r = cell_from c.elements cell h in
          subst (λ (cell : Cell Bool). any_offer n plainly s assignment q cell.values ≡ q (Some (a cell.family (map (place_in n) cell.indexes)))) (sym r.2) (cell_values s assignment q r.0 r.1);
      kept = λ family ps. kept_is family ps ∙ cells_kept family ps c.elements (λ x h. h);
    }

-- values are a state exactly where there is one that is written so
pub state_there : (p : Problem) (s : StateData) (b : Bool) → b ≡ are_values p p.elements s.values →
    OfCases p (λ c. IsTrue b ↔ ((a : AbsState) × IsAbsState c.problem.world c.problem.kept a × (s ≡ written_state c a)))
state_there p s b e c is well = (
  λ t.
      let among : are_values p (map written_element c.elements) s.values ≡ true = ap (λ xs. are_values p xs s.values) (sym (elements_are c well p is)) ∙ (sym e ∙ t) in (
        state_of c well p is s.values,
        is_abs_state c well p is s.values among,
        ap (λ vs. let state : StateData = record { values = vs } in state) (sym (values_back c well p is c.elements s.values (there c well p is) well.elements among)),
      ),
  λ r.
      e ∙ (ap (λ xs. are_values p xs s.values) (elements_are c well p is) ∙ (ap (λ (t : StateData). are_values p (map written_element c.elements) t.values) r.2 ∙ values_of_state c well p is r.0 r.1 c.elements (λ x h. h))),
)

-- cells of a state are seen by the view that is in it
pub cells_seen : (p : Problem) (s : StateData) (cells : List (Cell Bool)) → cells ≡ state_cells p p.elements s.values → OfStates p s (λ c a. (plain : Plain) → IsSeen plainly plain p cells (view_of c a))
cells_seen p s cells e c is well a state same plain =
    subst (λ cells. IsSeen plainly plain p cells (view_of c a))
    (sym (e ∙ (ap (λ xs. state_cells p xs s.values) (elements_are c well p is) ∙ ap (λ (t : StateData). state_cells p (map written_element c.elements) t.values) same)))
    (seen c well p is a state plain)

-- ---- cells one after the other

-- no more, where the elements or the values are at an end
pub cells_end : (p : Problem) (done all : List (Cell Bool)) (elements : List Element) (values : List AbsValue) → (elements ≡ []) ⊎ (values ≡ []) → done ++ state_cells p elements values ≡ all → done ≡ all
cells_end p done all elements values end e = nothing_behind done ∙ (ap (λ more. done ++ more) (sym (none elements values end)) ∙ e)
  where
    none : (elements : List Element) (values : List AbsValue) → (elements ≡ []) ⊎ (values ≡ []) → state_cells p elements values ≡ []
    none [] values end = refl
    none (x ∷ elements) [] end = refl
    none (x ∷ elements) (v ∷ values) (inl e) = absurd (cc)
    none (x ∷ elements) (v ∷ values) (inr e) = absurd (cc)
