-- What another value at an element changes in a state as it is written, and in its cells; and the values of an element as they are written.
use Rattle.std.proofs.Common.{◌≡◌, ◌≢◌, ℕ, zero, suc, ◌+◌, ◌<◌, ◌≤◌, List, [], ◌∷◌, map, length, get_or, take, Bool, true, false, not, cond, refl, sym, ap, subst, ◌∙◌, inl, inr, Option, Some, None, arith, nat_lt}
use Rattle.std.specs.Prelude.{option_map, position, slice_set}
use Rattle.std.specs.List.{slice_get, position_or_len}
use Rattle.std.proofs.lemmas.Bool.{cases_Bool}
use Rattle.std.proofs.lemmas.List.{take_all}
use Rattle.std.proofs.lemmas.List.Quantifiers.{position-Some}
use Rattle.std.proofs.Math.ListN.{get_or-map}
use Rattle.law_lists.proofs.Lists.{length_map}
use Rattle.smv_core.specs.FlatMeaning.{Numbered}
use Rattle.smv_core.specs.declared.flat.Class.{Class}
use Rattle.smv_core.specs.declared.flat.Element.{Element}
use Rattle.smv_core.specs.declared.flat.Family.{Family}
use Rattle.law_obligations.specs.Sets.{Has, first, later}
use Rattle.law_obligations.specs.Places.{Place, World}
use Rattle.law_obligations.specs.May.{AbsState, Kept}
use Rattle.law_obligations.specs.Demands.{places_of_family}
use Rattle.law_obligations.specs.Soundness.{over_of}
use Rattle.law_obligations.specs.Cones.{AbsElement, same_element}
use Rattle.law_obligations.specs.Readings.{PosedCase, values_in}
use Rattle.law_obligations.proofs.LeastCones.{same_element-is}
use Rattle.law_obligations.proofs.CoverParams.{map-same}
use Rattle.law_designs.specs.FlatKinds.{FlatKind}
use Rattle.law_arrangements.specs.Arrangements.{put}
use Rattle.law_arrangements.proofs.Views.{put_self, put_other}
use Rattle.smv_spots.specs.declared.spots.Spot.{Spot}
use Rattle.smv_spots.specs.Spots.{place_in}
use Rattle.smv_problem.specs.declared.problem.AbsValue.{AbsValue}
use Rattle.smv_problem.specs.declared.problem.Problem.{Problem}
use Rattle.smv_problem.specs.Written.{written, written_class, written_element, written_place, written_state, kind_in}
use Rattle.smv_problem.specs.WellFormed.{IsWellFormed, AreApartElements, OfCases}
use Rattle.smv_problem_spots.specs.Worlds.{IsWorldOf}
use Rattle.smv_typed_spots.specs.TypedSpots.{class_spots}
use Rattle.smv_typed_spots.proofs.TypedLaws.{classes_placed}
use Rattle.law_worlds.proofs.Worlds.{world_of_case}
use Rattle.smv_elements.specs.Elements as listed
use Rattle.smv_elements.proofs.Keys.{same-is, same-itself}
use Rattle.smv_cells.specs.declared.cells.Cell.{Cell}
use Rattle.smv_eval.specs.States.{state_cell, state_cells}
use Rattle.smv_eval.specs.Answers.{list_of, list_for, value_at}
use Rattle.smv_eval.proofs.HeldLaws.{types_of}
use Rattle.smv_eval.proofs.Narrow.{IsNarrow}
use Rattle.smv_eval.proofs.ValueLaws.{value_written}
use Rattle.smv_eval.proofs.SureLaws.{list_is, places_narrow}

-- ---- lists

pub get_there : {X : Type 0} (xs : List X) (i : ℕ) (d : X) → i < length xs → Has xs (get_or xs i d)
get_there [] i d l = absurd (omega arith)
get_there (x ∷ xs) zero d l = first
get_there (x ∷ xs) (suc i) d l = later (get_there xs i d (omega arith))

-- what is there is found
next_place : {X : Type 0} (p : X → Bool) (x : X) (xs : List X) → position p (x ∷ xs) ≡ cond (p x) (Some 0) (option_map (λ k. suc k) (position p xs))
next_place p x xs = at (p x) (position_or_len p xs) (length xs)
  where
    at : (b : Bool) (k n : ℕ) → cond (nat_lt (cond (not b) (1 + k) 0) (suc n)) (Some (cond (not b) (1 + k) 0)) None ≡ cond b (Some 0) (option_map (λ k. suc k) (cond (nat_lt k n) (Some k) None))
    at true k n = ap (λ b. cond b (Some 0) None) (positive n)
      where
        positive : (n : ℕ) → nat_lt 0 (suc n) ≡ true
        positive n = grind arith
    at false k n = ap (λ b. cond b (Some (1 + k)) None) (same_test k n) ∙ (ap (λ m. cond (nat_lt k n) (Some m) None) (one_more k) ∙ by (nat_lt k n))
      where
        one_more : (k : ℕ) → 1 + k ≡ suc k
        one_more k = omega arith

        same_test : (k n : ℕ) → nat_lt (1 + k) (suc n) ≡ nat_lt k n
        same_test k n = grind arith

        by : (b : Bool) → cond b (Some (suc k)) None ≡ option_map (λ k. suc k) (cond b (Some k) None)
        by true = refl
        by false = refl

pub found_there : {X : Type 0} (p : X → Bool) (xs : List X) (x : X) → Has xs x → p x ≡ true → position p xs ≡ None → ⊥
found_there p [] x h t e = elim h [ ]
found_there p (x ∷ xs) _ first t e = at (p x) t (sym (next_place p x xs) ∙ e)
  where
    at : (b : Bool) → b ≡ true → cond b (Some 0) (option_map (λ k. suc k) (position p xs)) ≡ None → ⊥
    at true t e = cc
    at false t e = cc
found_there p (y ∷ xs) x (later h) t e = at (p y) (position p xs) (sym (next_place p y xs) ∙ e) (found_there p xs x h t)
  where
    at : (b : Bool) (o : Option ℕ) → cond b (Some 0) (option_map (λ k. suc k) o) ≡ None → (o ≡ None → ⊥) → ⊥
    at true o e none = cc
    at false None e none = none refl
    at false (Some k) e none = cc

-- ---- cells

module _ (p : Problem) where
  -- the cells where one value is another
  pub put_cell : (elements : List Element) (values : List AbsValue) (i : ℕ) → i < length elements → (e : Element) → get_or elements i e ≡ e → (v : AbsValue) →
      state_cells p elements (slice_set values i v) ≡ slice_set (state_cells p elements values) i (state_cell p e v)
  put_cell [] values i l e is v = absurd (omega arith)
  put_cell (x ∷ xs) [] zero l e is v = refl
  put_cell (x ∷ xs) [] (suc i) l e is v = refl
  put_cell (x ∷ xs) (u ∷ values) zero l e is v = ap (λ (z : Element). state_cell p z v ∷ state_cells p xs values) is
  put_cell (x ∷ xs) (u ∷ values) (suc i) l e is v = ap (λ (cs : List (Cell Bool)). state_cell p x u ∷ cs) (put_cell xs values i (omega arith) e is v)

  -- where a place is that of an element
  pub placed_at : (e : Element) (i : ℕ) → position (listed.same_element e) p.elements ≡ Some i → (i < length p.elements) × (get_or p.elements i e ≡ e)
  placed_at e i found =
      let r = position-Some (listed.same_element e) p.elements i e found in
      (r.0, sym (same-is e (get_or p.elements i e) r.1))

-- ---- elements

module _ (c : PosedCase) (well : IsWellFormed c) where
  abbrev n : Numbered
  n = c.problem.world.classes

  indexes_back : (x : AbsElement) → Has c.elements x → map (place_in n) (class_spots (over_of (slice_get n.families x.family)) (map written_class x.indexes)) ≡ x.indexes
  indexes_back x h = classes_placed c.problem.world (over_of (slice_get n.families x.family)) x.indexes (types_of c well x.family) (well.indexes x h)

  -- elements that are written alike are one
  pub written_once : (x y : AbsElement) → Has c.elements x → Has c.elements y → written_element x ≡ written_element y → x ≡ y
  written_once x y hx hy e =
      let family : x.family ≡ y.family = ap (λ (z : Element). z.family) e in
      let classes : map written_class x.indexes ≡ map written_class y.indexes = ap (λ (z : Element). z.indexes) e in
      let indexes : x.indexes ≡ y.indexes =
      sym (indexes_back x hx)
      ∙ ap (λ (cs : List Class). map (place_in n) (class_spots (over_of (slice_get n.families x.family)) cs)) classes
      ∙ ap (λ (f : ℕ). map (place_in n) (class_spots (over_of (slice_get n.families f)) (map written_class y.indexes))) family
      ∙ indexes_back y hy in
      λ i. record { family = family i; indexes = indexes i }

  -- ---- values

  -- a value of an element as it is written
  abbrev pub value_of : AbsElement → Place → AbsValue
  value_of x v = written_place n (kind_in (slice_get n.families x.family)) v

  beside : (y x : AbsElement) → y ≢ x → same_element y x ≡ false
  beside y x other = elim (cases_Bool (same_element y x)) [ inl s ↦ absurd (other (same_element-is y x s)) | inr s ↦ s ]

  put_there : (x : AbsElement) (v : Place) (a : AbsState) (xs : List AbsElement) → AreApartElements xs → (i : ℕ) → i < length xs → get_or xs i x ≡ x →
      map (λ y. value_of y (put x v a y.family y.indexes)) xs ≡ slice_set (map (λ y. value_of y (a y.family y.indexes)) xs) i (value_of x v)
  put_there x v a [] apart i l e = absurd (omega arith)
  put_there x v a (y ∷ ys) apart zero l e =
      let head : value_of y (put x v a y.family y.indexes) ≡ value_of x v = ap (λ (z : AbsElement). value_of z (put x v a z.family z.indexes)) e ∙ ap (value_of x) (put_self c well.is_case x v a) in
      let others = map-same (λ (z : AbsElement). value_of z (put x v a z.family z.indexes)) (λ (z : AbsElement). value_of z (a z.family z.indexes)) ys
      (λ z h. ap (value_of z) (put_other c well.is_case x v a z.family z.indexes (beside z x (λ same. apart.0 z h (e ∙ sym same))))) in
      λ j. head j ∷ others j
  put_there x v a (y ∷ ys) apart (suc i) l e =
      let less : i < length ys = omega arith in
      let other : y ≢ x = apart.0 x (subst (Has ys) e (get_there ys i x less)) in
      let head : value_of y (put x v a y.family y.indexes) ≡ value_of y (a y.family y.indexes) = ap (value_of y) (put_other c well.is_case x v a y.family y.indexes (beside y x other)) in
      let others = put_there x v a ys apart.1 i less e in
      λ j. head j ∷ others j

  module _ (p : Problem) (is : p ≡ written c) where
    pub elements_are : p.elements ≡ map written_element c.elements
    unfolding written
    elements_are = ap (λ (q : Problem). q.elements) is

    families_are : p.families ≡ n.families
    unfolding written
    families_are = ap (λ (q : Problem). q.families) is

    -- an element of the case is found
    pub element_found : (e : Element) (x : AbsElement) → Has c.elements x → e ≡ written_element x → position (listed.same_element e) p.elements ≡ None → ⊥
    element_found e x h same none =
        found_there (listed.same_element e) p.elements (written_element x) (subst (λ (xs : List Element). Has xs (written_element x)) (sym elements_are) (mapped c.elements h))
        (ap (λ (z : Element). listed.same_element z (written_element x)) same ∙ same-itself (written_element x)) none
      where
        mapped : (xs : List AbsElement) → Has xs x → Has (map written_element xs) (written_element x)
        mapped [] h = elim h [ ]
        mapped (x ∷ xs) first = first
        mapped (y ∷ xs) (later h) = later (mapped xs h)

    -- a state with another value at an element is written so
    pub put_written : (e : Element) (i : ℕ) → position (listed.same_element e) p.elements ≡ Some i → (x : AbsElement) → Has c.elements x → e ≡ written_element x → (v : Place) (a : AbsState) →
        (written_state c (put x v a)).values ≡ slice_set (written_state c a).values i (value_of x v)
    put_written e i found x h same v a =
        let at = placed_at p e i found in
        let less : i < length c.elements = subst (λ (k : ℕ). i < k) (ap (λ (xs : List Element). length xs) elements_are ∙ length_map written_element c.elements) at.0 in
        let there : written_element (get_or c.elements i x) ≡ written_element x =
        sym (get_or-map written_element c.elements i x) ∙ ap (λ (z : Element). get_or (map written_element c.elements) i z) (sym same) ∙ ap (λ (xs : List Element). get_or xs i e) (sym elements_are) ∙ at.1 ∙ same in
        put_there x v a c.elements well.elements i less (written_once (get_or c.elements i x) x (get_there c.elements i x less) h there)

    world_is : IsWorldOf p c.problem.world
    world_is = subst (λ (q : Problem). IsWorldOf q c.problem.world) (sym is) (world_of_case c well)

    values_told : (kind : FlatKind) (spots : List Spot) → ((q : Place) → Has (map (place_in n) spots) q → IsNarrow (Some q)) → map (λ (s : Spot). value_at p (list_of kind) (Some s)) spots ≡ map (written_place n kind) (map (place_in n) spots)
    values_told kind [] narrow = refl
    values_told kind (s ∷ spots) narrow =
        let head : value_at p (list_of kind) (Some s) ≡ written_place n kind (place_in n s) = value_written p c.problem.world world_is kind (Some s) (narrow (place_in n s) first) in
        let others = values_told kind spots (λ q h. narrow q (later h)) in
        λ j. head j ∷ others j

    of_family : (o : Option Family) → places_of_family c.problem.world c.problem.kept o ≡ values_in c.problem.world o
    of_family None = refl
    of_family (Some f) = refl

    -- the values of a family, from its places
    pub family_values : (family : ℕ) (spots : List Spot) → ((w : World) (kept : Kept) → IsWorldOf p w → map (place_in w.classes) spots ≡ places_of_family w kept (slice_get w.classes.families family)) →
        map (λ (s : Spot). value_at p (list_for (slice_get p.families family)) (Some s)) spots ≡ map (written_place n (kind_in (slice_get n.families family))) (values_in c.problem.world (slice_get n.families family))
    family_values family spots are =
        let o : Option Family = slice_get n.families family in
        let places : map (place_in n) spots ≡ places_of_family c.problem.world c.problem.kept o = are c.problem.world c.problem.kept world_is in
        let list : list_for (slice_get p.families family) ≡ list_of (kind_in o) = ap (λ (fs : List Family). list_for (slice_get fs family)) families_are ∙ list_is o in
        ap (λ (l : Option ℕ). map (λ (s : Spot). value_at p l (Some s)) spots) list
        ∙ values_told (kind_in o) spots (λ q h. places_narrow c well o q (subst (λ (ps : List Place). Has ps q) places h))
        ∙ ap (map (written_place n (kind_in o))) (places ∙ of_family o)

-- all values of a family are read
pub values_read : (p : Problem) (family : ℕ) (list : Option ℕ) → list ≡ list_for (slice_get p.families family) → (places spots : List Spot) → spots ≡ places
    → ((w : World) (kept : Kept) → IsWorldOf p w → map (place_in w.classes) places ≡ places_of_family w kept (slice_get w.classes.families family)) → (i : ℕ) → length spots ≤ i
    → (values : List AbsValue) → values ≡ map (λ (s : Spot). value_at p list (Some s)) (take i spots)
    → OfCases p (λ c. values ≡ map (written_place c.problem.world.classes (kind_in (slice_get c.problem.world.classes.families family))) (values_in c.problem.world (slice_get c.problem.world.classes.families family)))
values_read p family list list_is places spots same are i le values read c is well =
    read
    ∙ ap (map (λ (s : Spot). value_at p list (Some s))) (take_all i spots le ∙ same)
    ∙ ap (λ (l : Option ℕ). map (λ (s : Spot). value_at p l (Some s)) places) list_is
    ∙ family_values c well p is family places are
