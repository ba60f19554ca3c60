-- A definition has the same possible results for an element in states that tell the same of what it reads for it.
use Rattle.std.proofs.Common.{◌≡◌, List, [], ◌∷◌, ◌++◌, map, Bool, true, false, not, ◌||◌, inl, inr, refl, sym, ap, subst, ◌∙◌, Option, Some, None, if◌then◌else◌}
use Rattle.std.proofs.lemmas.Bool.{cases_Bool}
use Rattle.std.specs.Prelude.{is_none}
use Rattle.std.specs.List.{flat_map, zip, list_any}
use Rattle.law_lists.proofs.Anys.{any-map, any-flat_map, any-agree}
use Rattle.law_lists.proofs.Booleans.{not_left, not_right, either_left, either_right}
use Rattle.law_obligations.proofs.CoverParams.{map-same}
use Rattle.smv_core.specs.Values.{Truth}
use Rattle.smv_core.specs.Assignments.{Index, fixed, bare, computed}
use Rattle.smv_core.specs.FlatMeaning.{flat_index}
use Rattle.smv_core.specs.declared.flat.FlatExpr.{FlatExpr}
use Rattle.smv_core.specs.declared.flat.DefBody.{DefBody, Nothing, Assign, If', First', Forall', Row_of-DefBody, end_of-DefBody, more_of-DefBody}
use Rattle.law_obligations.specs.Sets.{Has, first, later, one_of_each, pairs}
use Rattle.law_obligations.specs.Places.{Place, World, places_in, AbsOutcome, bind_place}
use Rattle.law_obligations.specs.May.{AbsState, Kept, seen, may}
use Rattle.law_obligations.specs.Results.{first_of, first_result, taken, is_elsewhere, assigned, results, results_each}
use Rattle.law_obligations.specs.Reads.{has_counting, have_counting, parts_read}
use Rattle.law_obligations.specs.Cones.{AbsElement}
use Rattle.law_obligations.proofs.Anys.{any-choices}
use Rattle.law_obligations.proofs.Filled.{Filled, AllFilled, has_choice, filled_each, may_filled}
use Rattle.law_obligations.proofs.OneOfEach.{AreOf, are_of}
use Rattle.law_obligations.proofs.Members.{Has-choices, one_of_one}
use Rattle.law_obligations.specs.Pictures.{KeepsNamed}
use Rattle.law_reads.specs.Reading.{elements_given, TellSame, known_at, may_be_of, HaveValues, read_in, read_of}
use Rattle.law_reads.specs.Laws.{PassSame}
use Rattle.law_reads.proofs.Lists.{any_in, AllPassSame, choices_same, map_passes, any-pair, pairs_pass}
use Rattle.law_reads.proofs.Indexes.{OutcomeIs, index_is}
use Rattle.law_reads.proofs.Outcomes as outcome

-- a test that does not look is what it is at each of some members
any_constant : {X : Type 0} (t : Bool) (xs : List X) → Filled xs → list_any (λ x. t) xs ≡ t
any_constant t [] h = elim h.1 [ ]
any_constant t (x ∷ xs) h = once t xs
  where
    once : {X : Type 0} (t : Bool) (xs : List X) → t || list_any (λ x. t) xs ≡ t
    once true xs = refl
    once false [] = refl
    once false (x ∷ xs) = once false xs

or_nothing : (t : Bool) → t || false ≡ t
or_nothing true = refl
or_nothing false = refl

is_true : (t : Bool) → not t ≡ false → t ≡ true
is_true true e = refl
is_true false e = absurd (cc)

filled_choices : {X : Type 0} (xss : List (List X)) → AllFilled xss → Filled (one_of_each xss)
filled_choices xss h = let r = has_choice xss h in (r.0, Has-choices r.1)

nothing_taken : {X : Type 0} (everything : X) (t : Truth) → taken everything t None None ≡ None
nothing_taken everything None = refl
nothing_taken everything (Some true) = refl
nothing_taken everything (Some false) = refl

-- where each of some lists has Nothing alone, so has the first result of one of each
first_nothing : {X Y : Type 0} (f : Y → List (Option X)) (counts : Y → Bool) (ys : List Y) → ((y : Y) → counts y ≡ false → (test : Option X → Bool) → list_any test (f y) ≡ test None) → list_any counts ys ≡ false →
    (test : Option X → Bool) → list_any (λ rs. test (first_result rs)) (one_of_each (map f ys)) ≡ test None
first_nothing f counts [] h e test = or_nothing (test None)
first_nothing f counts (y ∷ ys) h e test =
    any-choices (λ rs. test (first_result rs)) (f y) (map f ys)
    ∙ (any-agree (λ r. list_any (λ rs. test (first_result (r ∷ rs))) (one_of_each (map f ys))) (λ r. test (first_of r None)) (f y)
    (λ r. first_nothing f counts ys h (not_right (counts y) (list_any counts ys) e) (λ z. test (first_of r z)))
    ∙ h y (not_left (counts y) (list_any counts ys) e) (λ r. test (first_of r None)))

-- so where both branches have Nothing alone
if_nothing : {X : Type 0} (everything : X) (us : List AbsOutcome) (ls rs : List (Option X)) → Filled us → ((test : Option X → Bool) → list_any test ls ≡ test None) → ((test : Option X → Bool) → list_any test rs ≡ test None) →
    (test : Option X → Bool) → list_any test (flat_map (λ u. pairs (λ x y. taken everything (seen u) x y ∷ []) ls rs) us) ≡ test None
if_nothing everything us ls rs filled left right test =
    any-flat_map test (λ u. pairs (λ x y. taken everything (seen u) x y ∷ []) ls rs) us
    ∙ (any-agree (λ u. list_any test (pairs (λ x y. taken everything (seen u) x y ∷ []) ls rs)) (λ u. test None) us
    (λ u. any-pair test (λ x y. taken everything (seen u) x y ∷ []) ls rs
    ∙ (any-agree (λ x. list_any (λ y. list_any test (taken everything (seen u) x y ∷ [])) rs) (λ x. list_any test (taken everything (seen u) x None ∷ [])) ls
    (λ x. right (λ y. list_any test (taken everything (seen u) x y ∷ [])))
    ∙ (left (λ x. list_any test (taken everything (seen u) x None ∷ []))
    ∙ (ap (λ r. test r || false) (nothing_taken everything (seen u)) ∙ or_nothing (test None)))))
    ∙ any_constant (test None) us filled)

-- ---- one state

module _ (w : World) (have : HaveValues w) (kept : Kept) (a : AbsState) (indexes : List Place) {X : Type 0} (everything : X) (right : FlatExpr → List Place → X) where
  abbrev given : DefBody → List Place → List (Option X)
  given part b = results w kept a indexes everything right part b

  abbrev given_each : {m : _} → Row_of-DefBody m → List Place → List (List (Option X))
  given_each row b = results_each w kept a indexes everything right row b

  abbrev counting : DefBody → List Place → Bool
  counting part b = has_counting (places_in w) (may_be_of indexes) part b

  abbrev counting_some : {m : _} → Row_of-DefBody m → List Place → Bool
  counting_some row b = have_counting (places_in w) (may_be_of indexes) row b

  -- an index that is known to be elsewhere is so in each choice of outcomes
  known_elsewhere : (e : FlatExpr) (b : List Place) (u : AbsOutcome) (q : Place) → Has (may w kept a e b) u → is_elsewhere (known_at b (flat_index e)) q ≡ true → is_elsewhere u q ≡ true
  known_elsewhere e b u q h k = at (flat_index e) (index_is w kept a e b) k
    where
      at : (i : Index) → OutcomeIs b i (may w kept a e b) → is_elsewhere (known_at b i) q ≡ true → is_elsewhere u q ≡ true
      at (fixed v) o k = subst (λ x. is_elsewhere x q ≡ true) (sym (one_of_one (subst (λ us. Has us u) o h))) k
      at (bare var) o k = subst (λ x. is_elsewhere x q ≡ true) (sym (one_of_one (subst (λ us. Has us u) o h))) k
      at computed o k = absurd (cc)

  elsewhere : (left : List FlatExpr) (qs : List Place) (b : List Place) (us : List AbsOutcome) → AreOf (map (λ e. may w kept a e b) left) us →
      list_any (λ (i, q). is_elsewhere (known_at b i) q) (zip (map flat_index left) qs) ≡ true → list_any (λ (u, q). is_elsewhere u q) (zip us qs) ≡ true
  elsewhere [] qs b us h e = absurd (cc)
  elsewhere (x ∷ left) [] b us h e = absurd (cc)
  elsewhere (x ∷ left) (q ∷ qs) b [] h e = absurd h
  elsewhere (x ∷ left) (q ∷ qs) b (u ∷ us) h e = elim (cases_Bool (is_elsewhere (known_at b (flat_index x)) q)) [
    | inl k ↦ either_left (list_any (λ (u, q). is_elsewhere u q) (zip us qs)) (known_elsewhere x b u q h.0 k)
    | inr k ↦ either_right (is_elsewhere u q) (elsewhere left qs b us h.1 (rest (is_elsewhere (known_at b (flat_index x)) q) (list_any (λ (i, q). is_elsewhere (known_at b i) q) (zip (map flat_index left) qs)) k e))
  ]
    where
      rest : (s t : Bool) → s ≡ false → s || t ≡ true → t ≡ true
      rest s t k e = cc

  mutual
    -- a part in which no assignment may be of the element gives Nothing
    only_nothing : (part : DefBody) (b : List Place) → counting part b ≡ false → (test : Option X → Bool) → list_any test (given part b) ≡ test None
    only_nothing Nothing b e test = or_nothing (test None)
    only_nothing (Assign left value place at) b e test =
        any-map test (λ us. assigned w kept a indexes everything right us value b) (one_of_each (map (λ e. may w kept a e b) left))
        ∙ (any_in (λ us. test (assigned w kept a indexes everything right us value b)) (λ us. test None) (one_of_each (map (λ e. may w kept a e b) left))
        (λ us k. ap test (is_nothing us (elsewhere left indexes b us (are_of (map (λ e. may w kept a e b) left) us k) (is_true (list_any (λ (i, q). is_elsewhere (known_at b i) q) (zip (map flat_index left) indexes)) e))))
        ∙ any_constant (test None) (one_of_each (map (λ e. may w kept a e b) left)) (filled_choices (map (λ e. may w kept a e b) left) (filled_each (λ e. may w kept a e b) left (λ e. may_filled w kept a have e b))))
      where
        is_nothing : (us : List AbsOutcome) → list_any (λ (u, q). is_elsewhere u q) (zip us indexes) ≡ true → assigned w kept a indexes everything right us value b ≡ None
        is_nothing us k = rw k refl
    only_nothing (If' cond l (more_of-DefBody left end_of-DefBody) r (more_of-DefBody other end_of-DefBody)) b e test =
        if_nothing everything (may w kept a cond b) (given left b) (given other b) (may_filled w kept a have cond b)
        (only_nothing left b (not_left (counting left b) (counting other b) e)) (only_nothing other b (not_right (counting left b) (counting other b) e)) test
    only_nothing (First' shape parts) b e test = any-map test first_result (one_of_each (given_each parts b)) ∙ nothing_each parts b e test
    only_nothing (Forall' var over shape (more_of-DefBody body end_of-DefBody)) b e test =
        any-map test first_result (one_of_each (map (λ p. given body (bind_place b var p)) (places_in w over)))
        ∙ first_nothing (λ p. given body (bind_place b var p)) (λ p. counting body (bind_place b var p)) (places_in w over) (λ p k. only_nothing body (bind_place b var p) k) e test

    nothing_each : {m : _} (row : Row_of-DefBody m) (b : List Place) → counting_some row b ≡ false → (test : Option X → Bool) → list_any (λ rs. test (first_result rs)) (one_of_each (given_each row b)) ≡ test None
    nothing_each end_of-DefBody b e test = or_nothing (test None)
    nothing_each (more_of-DefBody part others) b e test =
        any-choices (λ rs. test (first_result rs)) (given part b) (given_each others b)
        ∙ (any-agree (λ r. list_any (λ rs. test (first_result (r ∷ rs))) (one_of_each (given_each others b))) (λ r. test (first_of r None)) (given part b)
        (λ r. nothing_each others b (not_right (counting part b) (counting_some others b) e) (λ z. test (first_of r z)))
        ∙ only_nothing part b (not_left (counting part b) (counting_some others b) e) (λ r. test (first_of r None)))

-- ---- two states

all_pass : {X Y : Type 0} (f g : Y → List X) (ys : List Y) → ((y : Y) → Has ys y → PassSame (f y) (g y)) → AllPassSame (map f ys) (map g ys)
all_pass f g [] h = tt
all_pass f g (y ∷ ys) h = (h y first, all_pass f g ys (λ z k. h z (later k)))

module _ (w : World) (have : HaveValues w) (kept other : Kept) (a d : AbsState) (keeps : KeepsNamed w kept) (keeps_other : KeepsNamed w other) (indexes : List Place) {X : Type 0} (everything : X)
    (right others : FlatExpr → List Place → X) (right_same : (e : FlatExpr) (b : List Place) → TellSame kept a other d (read_in w e b) → right e b ≡ others e b) where
  abbrev Same : List AbsElement → Type 0
  Same xs = TellSame kept a other d xs

  abbrev read : DefBody → List Place → List AbsElement
  read part b = read_of w indexes part b

  abbrev read_some : {m : _} → Row_of-DefBody m → List Place → List AbsElement
  read_some row b = parts_read (places_in w) (may_be_of indexes) (places_in w) (elements_given w) row b

  abbrev counts : DefBody → List Place → Bool
  counts part b = has_counting (places_in w) (may_be_of indexes) part b

  abbrev one : DefBody → List Place → List (Option X)
  one part b = results w kept a indexes everything right part b

  abbrev two : DefBody → List Place → List (Option X)
  two part b = results w other d indexes everything others part b

  same_left : (xs ys : List AbsElement) → Same (xs ++ ys) → Same xs
  same_left xs ys h = outcome.same_left w kept other a d keeps keeps_other xs ys h

  same_right : (xs ys : List AbsElement) → Same (xs ++ ys) → Same ys
  same_right xs ys h = outcome.same_right w kept other a d keeps keeps_other xs ys h

  may_same : (e : FlatExpr) (b : List Place) → Same (read_in w e b) → may w kept a e b ≡ may w other d e b
  may_same e b h = outcome.may_same w kept other a d keeps keeps_other e b h

  where_read : (t : Bool) (xs : List AbsElement) → t ≡ true → Same (if t then xs else []) → Same xs
  where_read t xs e h = subst (λ s. Same (if s then xs else [])) e h

  -- what an assignment gives, by what its right side does
  abbrev by_right : X → List AbsOutcome → Option X
  by_right r us = if list_any (λ (u, q). is_elsewhere u q) (zip us indexes) then None else if list_any is_none us then Some everything else Some r

  neither_counts : (part : DefBody) (b : List Place) → counts part b ≡ false → PassSame (one part b) (two part b)
  neither_counts part b e test = only_nothing w have kept a indexes everything right part b e test ∙ sym (only_nothing w have other d indexes everything others part b e test)

  mutual
    pub results_same : (part : DefBody) (b : List Place) → Same (read part b) → PassSame (one part b) (two part b)
    results_same Nothing b h = λ test. refl
    results_same (Assign left value place at) b h = elim (cases_Bool (may_be_of indexes (map flat_index left) b)) [
      | inl e ↦
          let all = where_read (may_be_of indexes (map flat_index left) b) (flat_map (λ e. read_in w e b) left ++ read_in w value b) e h in
          let own : right value b ≡ others value b = right_same value b (same_right (flat_map (λ e. read_in w e b) left) (read_in w value b) all) in
          let lefts : map (λ e. may w kept a e b) left ≡ map (λ e. may w other d e b) left =
          map-same (λ e. may w kept a e b) (λ e. may w other d e b) left
          (λ e k. may_same e b (outcome.same_at w kept other a d keeps keeps_other (λ e. read_in w e b) left (same_left (flat_map (λ e. read_in w e b) left) (read_in w value b) all) e k)) in
          λ test. ap (list_any test) (ap (λ r. map (by_right r) (one_of_each (map (λ e. may w kept a e b) left))) own ∙ ap (λ uss. map (by_right (others value b)) (one_of_each uss)) lefts)
      | inr e ↦ neither_counts (Assign left value place at) b e
    ]
    results_same (If' cond l (more_of-DefBody left end_of-DefBody) r (more_of-DefBody second end_of-DefBody)) b h = elim (cases_Bool (counts left b || counts second b)) [
      | inl e ↦
          let test_read : List AbsElement = if counts left b || counts second b then read_in w cond b else [] in
          let front : Same (test_read ++ read left b) = same_left (test_read ++ read left b) (read second b) h in
          let conds = may_same cond b (where_read (counts left b || counts second b) (read_in w cond b) e (same_left test_read (read left b) front)) in
          let lefts = results_same left b (same_right test_read (read left b) front) in
          let seconds = results_same second b (same_right (test_read ++ read left b) (read second b) h) in
          λ test. any-flat_map test (λ u. pairs (λ x y. taken everything (seen u) x y ∷ []) (one left b) (one second b)) (may w kept a cond b)
          ∙ (any-agree (λ u. list_any test (pairs (λ x y. taken everything (seen u) x y ∷ []) (one left b) (one second b))) (λ u. list_any test (pairs (λ x y. taken everything (seen u) x y ∷ []) (two left b) (two second b))) (may w kept a cond b)
          (λ u. pairs_pass (λ x y. taken everything (seen u) x y ∷ []) (one left b) (two left b) (one second b) (two second b) lefts seconds test)
          ∙ (ap (list_any (λ u. list_any test (pairs (λ x y. taken everything (seen u) x y ∷ []) (two left b) (two second b)))) conds
          ∙ sym (any-flat_map test (λ u. pairs (λ x y. taken everything (seen u) x y ∷ []) (two left b) (two second b)) (may w other d cond b))))
      | inr e ↦ neither_counts (If' cond l (more_of-DefBody left end_of-DefBody) r (more_of-DefBody second end_of-DefBody)) b e
    ]
    results_same (First' shape parts) b h =
        map_passes first_result (one_of_each (results_each w kept a indexes everything right parts b)) (one_of_each (results_each w other d indexes everything others parts b))
        (choices_same (results_each w kept a indexes everything right parts b) (results_each w other d indexes everything others parts b) (each_same parts b h))
    results_same (Forall' var over shape (more_of-DefBody body end_of-DefBody)) b h =
        map_passes first_result (one_of_each (map (λ p. one body (bind_place b var p)) (places_in w over))) (one_of_each (map (λ p. two body (bind_place b var p)) (places_in w over)))
        (choices_same (map (λ p. one body (bind_place b var p)) (places_in w over)) (map (λ p. two body (bind_place b var p)) (places_in w over))
        (all_pass (λ p. one body (bind_place b var p)) (λ p. two body (bind_place b var p)) (places_in w over)
        (λ p k. results_same body (bind_place b var p) (outcome.same_at w kept other a d keeps keeps_other (λ p. read body (bind_place b var p)) (places_in w over) h p k))))

    each_same : {m : _} (row : Row_of-DefBody m) (b : List Place) → Same (read_some row b) → AllPassSame (results_each w kept a indexes everything right row b) (results_each w other d indexes everything others row b)
    each_same end_of-DefBody b h = tt
    each_same (more_of-DefBody part more) b h = (results_same part b (same_left (read part b) (read_some more b) h), each_same more b (same_right (read part b) (read_some more b) h))
