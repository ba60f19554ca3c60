-- The first value that is allowed an element, value by value, and elements worked out one after the other.
use Rattle.std.proofs.Common.{◌≡◌, ℕ, zero, suc, ◌+◌, ◌<◌, ◌≤◌, List, [], ◌∷◌, map, length, get_or, take, drop, Bool, true, false, if◌then◌else◌, refl, sym, ap, subst, ◌∙◌, Some, None, arith}
use Rattle.std.specs.Prelude.{position, slice_set}
use Rattle.std.specs.List.{filter, slice_get, list_all}
use Rattle.std.proofs.Math.ListN.{get_or-map}
use Rattle.std.proofs.Math.Seq.{drop-cons}
use Rattle.std.proofs.lemmas.List.{take_all, get_or_default, set-set}
use Rattle.law_lists.proofs.Lists.{length_map}
use Rattle.smv_core.specs.declared.flat.Element.{Element}
use Rattle.law_obligations.specs.Sets.{Has, first}
use Rattle.law_obligations.specs.Places.{Place}
use Rattle.law_obligations.specs.May.{AbsState}
use Rattle.law_obligations.specs.Obligations.{is_met}
use Rattle.law_obligations.specs.Cones.{AbsElement}
use Rattle.law_obligations.specs.Readings.{PosedCase, values_in, values_of}
use Rattle.law_obligations.proofs.Lookups.{Has-from_filter}
use Rattle.law_reports.specs.CaseLists.{those_of}
use Rattle.law_arrangements.specs.Arrangements.{put, IsState, worked_out}
use Rattle.law_arrangements.proofs.Views.{put_state, put_same, own_value}
use Rattle.smv_problem.specs.declared.problem.AbsState.{AbsState as StateData}
use Rattle.smv_problem.specs.declared.problem.AbsValue.{AbsValue}
use Rattle.smv_problem.specs.declared.problem.Problem.{Problem}
use Rattle.smv_problem.specs.Written.{written, written_element, written_place, written_state, kind_in}
use Rattle.smv_problem.specs.WellFormed.{IsWellFormed, OfCases}
use Rattle.smv_elements.specs.Elements as listed
use Rattle.smv_cells.specs.declared.cells.Cell.{Cell}
use Rattle.smv_eval.specs.Held.{AreReadBy}
use Rattle.smv_eval.specs.States.{state_cell, state_cells}
use Rattle.smv_eval.proofs.StateHeld.{read_first}
use Rattle.smv_eval.proofs.StateLaws.{cells_seen}
use Rattle.smv_complete.proofs.States.{get_there, value_of, element_found, placed_at, put_cell, put_written, elements_are}

-- ---- tests of lists, one after the other

module _ {X : Type 0} (f : X → Bool) where
  none_more : (vs : List X) (i : ℕ) (d : X) → i < length vs → filter f (take i vs) ≡ [] → f (get_or vs i d) ≡ false → filter f (take (suc i) vs) ≡ []
  none_more [] i d l before e = absurd (omega arith)
  none_more (v ∷ vs) zero d l before e = ap (λ b. if b then v ∷ [] else []) e
  none_more (v ∷ vs) (suc i) d l before e = at (f v) before (λ b. none_more vs i d (omega arith) b e)
    where
      at : (b : Bool) → (if b then v ∷ filter f (take i vs) else filter f (take i vs)) ≡ [] → (filter f (take i vs) ≡ [] → filter f (take (suc i) vs) ≡ []) → (if b then v ∷ filter f (take (suc i) vs) else filter f (take (suc i) vs)) ≡ []
      at true before more = absurd (cc)
      at false before more = more before

  first_is : (vs : List X) (i : ℕ) (d e : X) → i < length vs → filter f (take i vs) ≡ [] → f (get_or vs i d) ≡ true → get_or (filter f vs) 0 e ≡ get_or vs i d
  first_is [] i d e l before t = absurd (omega arith)
  first_is (v ∷ vs) zero d e l before t = ap (λ b. get_or (if b then v ∷ filter f vs else filter f vs) 0 e) t
  first_is (v ∷ vs) (suc i) d e l before t = at (f v) before (λ b. first_is vs i d e (omega arith) b t)
    where
      at : (b : Bool) → (if b then v ∷ filter f (take i vs) else filter f (take i vs)) ≡ [] → (filter f (take i vs) ≡ [] → get_or (filter f vs) 0 e ≡ get_or vs i d) → get_or (if b then v ∷ filter f vs else filter f vs) 0 e ≡ get_or vs i d
      at true before more = absurd (cc)
      at false before more = more before

  first_among : (vs : List X) (d : X) → Has vs d → Has vs (get_or (filter f vs) 0 d)
  first_among vs d h = at (filter f vs) refl
    where
      at : (us : List X) → filter f vs ≡ us → Has vs (get_or us 0 d)
      at [] e = h
      at (u ∷ us) e = (Has-from_filter f vs (subst (λ (ws : List X). Has ws u) (sym e) first)).0

-- ---- one value of a list

got_less : {X : Type 0} (xs : List X) (i : ℕ) → i < length xs → slice_get xs i ≡ None → ⊥
got_less [] i l e = absurd (omega arith)
got_less (x ∷ xs) zero l e = cc
got_less (x ∷ xs) (suc i) l e = got_less xs i (omega arith) e

-- what stands there, put there again
put_again : {X : Type 0} (xs : List X) (i : ℕ) (x : X) → slice_get xs i ≡ Some x → slice_set xs i x ≡ xs
put_again [] i x e = absurd (cc)
put_again (y ∷ xs) zero x e = ap (λ z. z ∷ xs) (same e)
  where
    same : {X : Type 0} {x y : X} → Some y ≡ Some x → x ≡ y
    same e = cc
put_again (y ∷ xs) (suc i) x e = ap (λ zs. y ∷ zs) (put_again xs i x e)

-- ---- an element and the states that have these values

module _ (p : Problem) (own : Element) (values : List AbsValue) where
  abbrev pub OfStatesAt : (PosedCase → AbsElement → AbsState → Type 0) → Type 0
  OfStatesAt says = OfCases p (λ c. (x : AbsElement) → Has c.elements x → own ≡ written_element x → (a : AbsState) → IsState c a → values ≡ (written_state c a).values → says c x a)

  -- the element is worked out
  abbrev pub IsWorkedOut : List AbsValue → Type 0
  IsWorkedOut now = OfStatesAt (λ c x a. now ≡ (written_state c (worked_out c c.problem.now (x ∷ []) None a)).values)

  pub not_found : position (listed.same_element own) p.elements ≡ None → (now : List AbsValue) → IsWorkedOut now
  not_found none now c is well x h same a state e = absurd (element_found c well p is own x h same none)

  pub no_value : (place : ℕ) → position (listed.same_element own) p.elements ≡ Some place → slice_get values place ≡ None → (now : List AbsValue) → IsWorkedOut now
  no_value place found none now c is well x h same a state e =
      let at = placed_at p own place found in
      let less : place < length (written_state c a).values =
      subst (λ (k : ℕ). place < k) (ap (λ (xs : List Element). length xs) (elements_are c well p is) ∙ length_map written_element c.elements ∙ sym (length_map (λ x. value_of c well x (a x.family x.indexes)) c.elements)) at.0 in
      absurd (got_less (written_state c a).values place less (ap (λ (vs : List AbsValue). slice_get vs place) (sym e) ∙ none))

  -- ---- one value after the other

  abbrev allows : PosedCase → AbsElement → AbsState → Place → Bool
  allows c x a v = list_all (is_met c.problem None (put x v a)) (those_of c.problem.now x)

  -- none of the first values is allowed
  abbrev pub NoneOf : ℕ → Type 0
  NoneOf i = OfStatesAt (λ c x a. filter (allows c x a) (take i (values_of c.problem.world x)) ≡ [])

  pub none_yet : NoneOf 0
  none_yet c is well x h same a state e = refl

  module _ (place : ℕ) (found : position (listed.same_element own) p.elements ≡ Some place) (choices : List AbsValue)
      (are : OfCases p (λ c. choices ≡ map (written_place c.problem.world.classes (kind_in (slice_get c.problem.world.classes.families own.family))) (values_in c.problem.world (slice_get c.problem.world.classes.families own.family)))) where
    choices_are : (c : PosedCase) → p ≡ written c → (well : IsWellFormed c) (x : AbsElement) → own ≡ written_element x → choices ≡ map (value_of c well x) (values_of c.problem.world x)
    choices_are c is well x same =
        are c is well
        ∙ ap (λ (z : Element). map (written_place c.problem.world.classes (kind_in (slice_get c.problem.world.classes.families z.family))) (values_in c.problem.world (slice_get c.problem.world.classes.families z.family))) same

    module _ (i : ℕ) (choice : AbsValue) (less : i < length choices) (at : choice ≡ get_or choices i choice) (now : List AbsValue) (now_is : now ≡ slice_set values place choice) (cells : List (Cell Bool)) (cells_are : cells ≡ state_cells p p.elements now) (met : Bool)
        (by : OfCases p (λ c. (x : AbsElement) → Has c.elements x → own ≡ written_element x → (a : AbsState) → AreReadBy p None cells c.problem None a → met ≡ list_all (is_met c.problem None a) (those_of c.problem.now x))) where
      module _ (c : PosedCase) (is : p ≡ written c) (well : IsWellFormed c) (x : AbsElement) (h : Has c.elements x) (same : own ≡ written_element x) (a : AbsState) (state : IsState c a) (e : values ≡ (written_state c a).values) where
        abbrev vs : List Place
        vs = values_of c.problem.world x

        abbrev v : Place
        v = get_or vs i (a x.family x.indexes)

        count : i < length vs
        count = subst (λ (k : ℕ). i < k) (ap (λ (us : List AbsValue). length us) (choices_are c is well x same) ∙ length_map (value_of c well x) vs) less

        choice_is : choice ≡ value_of c well x v
        choice_is =
            at ∙ get_or_default choices i choice (value_of c well x (a x.family x.indexes)) less
            ∙ ap (λ (us : List AbsValue). get_or us i (value_of c well x (a x.family x.indexes))) (choices_are c is well x same) ∙ get_or-map (value_of c well x) vs i (a x.family x.indexes)

        values_are : now ≡ (written_state c (put x v a)).values
        values_are = now_is ∙ ap (λ (u : AbsValue). slice_set values place u) choice_is ∙ ap (λ (us : List AbsValue). slice_set us place (value_of c well x v)) e ∙ sym (put_written c well p is own place found x h same v a)

        tells : met ≡ allows c x a v
        tells =
            let state_is : StateData = record { values = now } in
            let read =
            read_first p state_is cells (cells_seen p state_is cells cells_are) c is well (put x v a) (put_state c well.is_case x v a h (get_there vs i (a x.family x.indexes) count) state) (λ j. record { values = values_are j }) None refl in
            by c is well x h same (put x v a) read.1

      pub not_this : met ≡ false → NoneOf i → NoneOf (i + 1)
      not_this f before c is well x h same a state e =
          let next : suc i ≡ i + 1 = omega arith in
          subst (λ (k : ℕ). filter (allows c x a) (take k (values_of c.problem.world x)) ≡ []) next
          (none_more (allows c x a) (values_of c.problem.world x) i (a x.family x.indexes) (count c is well x h same a state e) (before c is well x h same a state e) (sym (tells c is well x h same a state e) ∙ f))

      pub this : met ≡ true → NoneOf i → IsWorkedOut now
      this t before c is well x h same a state e =
          values_are c is well x h same a state e
          ∙ ap (λ (u : Place). (written_state c (put x u a)).values)
          (sym (first_is (allows c x a) (values_of c.problem.world x) i (a x.family x.indexes) (a x.family x.indexes) (count c is well x h same a state e) (before c is well x h same a state e) (sym (tells c is well x h same a state e) ∙ t)))

    -- where none is, the own one stays
    pub none_at_all : (i : ℕ) → length choices ≤ i → NoneOf i → (now : List AbsValue) → now ≡ values → IsWorkedOut now
    none_at_all i le none now stays c is well x h same a state e =
        let vs : List Place = values_of c.problem.world x in
        let long : length vs ≤ i = subst (λ (k : ℕ). k ≤ i) (ap (λ (us : List AbsValue). length us) (choices_are c is well x same) ∙ length_map (value_of c well x) vs) le in
        let empty : filter (allows c x a) vs ≡ [] = ap (filter (allows c x a)) (sym (take_all i vs long)) ∙ none c is well x h same a state e in
        stays ∙ e ∙ ap (λ (b : AbsState). (written_state c b).values) (sym (ap (λ (us : List Place). put x (get_or us 0 (a x.family x.indexes)) a) empty ∙ put_same c well.is_case x a))

-- ---- values and cells of a loop: whatever value is put there, it is put among the first ones

abbrev pub IsSameBeside : List AbsValue → ℕ → List AbsValue → Type 0
IsSameBeside values place now = (v : AbsValue) → slice_set now place v ≡ slice_set values place v

pub same_beside : (values now next : List AbsValue) (place : ℕ) (v : AbsValue) → IsSameBeside values place now → next ≡ slice_set now place v → IsSameBeside values place next
same_beside values now next place v same e w = ap (λ (us : List AbsValue). slice_set us place w) e ∙ set-set now place v w ∙ same w

pub own_again : (values now next : List AbsValue) (place : ℕ) (v : AbsValue) → IsSameBeside values place now → next ≡ slice_set now place v → slice_get values place ≡ Some v → next ≡ values
own_again values now next place v same e got = e ∙ same v ∙ put_again values place v got

pub cells_put : (p : Problem) (own : Element) (place : ℕ) → position (listed.same_element own) p.elements ≡ Some place → (values now : List AbsValue) (v : AbsValue) (cells next : List (Cell Bool)) → cells ≡ state_cells p p.elements values → now ≡ slice_set values place v →
    next ≡ slice_set cells place (state_cell p own v) → next ≡ state_cells p p.elements now
cells_put p own place found values now v cells next are e is =
    let at = placed_at p own place found in
    is ∙ ap (λ (cs : List (Cell Bool)). slice_set cs place (state_cell p own v)) are ∙ sym (put_cell p p.elements values place at.0 own at.1 v) ∙ ap (state_cells p p.elements) (sym e)

-- ---- elements one after the other

abbrev pub Among : PosedCase → List AbsElement → Type 0
Among c xs = (x : AbsElement) → Has xs x → Has c.elements x

-- what is left to be worked out of a state that has these values gives what all of them give
pub record IsSoFar (c : PosedCase) (xs : List AbsElement) (a : AbsState) (i : ℕ) (values : List AbsValue) : Type 0 where
  pub now : AbsState
  pub is_state : IsState c now
  pub values_are : values ≡ (written_state c now).values
  pub rest : worked_out c c.problem.now (drop i xs) None now ≡ worked_out c c.problem.now xs None a

abbrev pub AreSoFar : Problem → List Element → StateData → ℕ → List AbsValue → Type 0
AreSoFar p wires old i values = OfCases p (λ c. (xs : List AbsElement) → Among c xs → wires ≡ map written_element xs → (a : AbsState) → IsState c a → old ≡ written_state c a → IsSoFar c xs a i values)

pub so_far_none : (p : Problem) (wires : List Element) (old : StateData) (values : List AbsValue) → values ≡ old.values → AreSoFar p wires old 0 values
so_far_none p wires old values e c is well xs among same a state old_is = record { now = a; is_state = state; values_are = e ∙ ap (λ (s : StateData). s.values) old_is; rest = refl }

pub so_far_more : (p : Problem) (wires : List Element) (old : StateData) (i : ℕ) (values next : List AbsValue) (wire : Element) → i < length wires → wire ≡ get_or wires i wire → IsWorkedOut p wire values next → AreSoFar p wires old i values → AreSoFar p wires old (i + 1) next
so_far_more p wires old i values next wire less at works before c is well xs among same a state old_is =
    let s = before c is well xs among same a state old_is in
    let d : AbsElement = record { family = 0; indexes = [] } in
    let count : i < length xs = subst (λ (k : ℕ). i < k) (ap (λ (ws : List Element). length ws) same ∙ length_map written_element xs) less in
    let x : AbsElement = get_or xs i d in
    let h : Has c.elements x = among x (get_there xs i d count) in
    let wire_is : wire ≡ written_element x = at ∙ get_or_default wires i wire (written_element d) less ∙ ap (λ (ws : List Element). get_or ws i (written_element d)) same ∙ get_or-map written_element xs i d in
    let b : AbsState = s.now in
    let f : Place → Bool = λ v. list_all (is_met c.problem None (put x v b)) (those_of c.problem.now x) in
    let v : Place = get_or (filter f (values_of c.problem.world x)) 0 (b x.family x.indexes) in
    let split : drop i xs ≡ x ∷ drop (suc i) xs = drop-cons xs i d count in
    let next_i : suc i ≡ i + 1 = omega arith in
    record {
      now = put x v b;
      is_state = put_state c well.is_case x v b h (first_among f (values_of c.problem.world x) (b x.family x.indexes) (own_value c well.is_case x b h s.is_state)) s.is_state;
      values_are = works c is well x h wire_is b s.is_state s.values_are;
      rest =
          ap (λ (k : ℕ). worked_out c c.problem.now (drop k xs) None (put x v b)) (sym next_i)
          ∙ ap (λ (ys : List AbsElement). worked_out c c.problem.now ys None b) (sym split)
          ∙ s.rest;
    }

pub all_so_far : (p : Problem) (wires : List Element) (old : StateData) (i : ℕ) (values : List AbsValue) → length wires ≤ i → AreSoFar p wires old i values → (new : StateData) → new.values ≡ values →
    OfCases p (λ c. (xs : List AbsElement) → Among c xs → wires ≡ map written_element xs → (a : AbsState) → IsState c a → old ≡ written_state c a → new ≡ written_state c (worked_out c c.problem.now xs None a))
all_so_far p wires old i values le so_far new is_new c is well xs among same a state old_is =
    let s = so_far c is well xs among same a state old_is in
    let long : length xs ≤ i = subst (λ (k : ℕ). k ≤ i) (ap (λ (ws : List Element). length ws) same ∙ length_map written_element xs) le in
    let done : s.now ≡ worked_out c c.problem.now xs None a = ap (λ (ys : List AbsElement). worked_out c c.problem.now ys None s.now) (sym (none_left xs i long)) ∙ s.rest in
    let values_are : new.values ≡ (written_state c s.now).values = is_new ∙ s.values_are in
    let is_written : new ≡ written_state c s.now = λ j. record { values = values_are j } in
    is_written ∙ ap (written_state c) done
  where
    none_left : (xs : List AbsElement) (i : ℕ) → length xs ≤ i → drop i xs ≡ []
    none_left [] zero l = refl
    none_left [] (suc i) l = refl
    none_left (x ∷ xs) zero l = absurd (omega arith)
    none_left (x ∷ xs) (suc i) l = none_left xs i (omega arith)
