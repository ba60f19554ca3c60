-- What spent steps say of a case.
use Rattle.std.proofs.Common.{◌≡◌, ◌≢◌, ℕ, zero, suc, ◌-◌, ◌*◌, ◌<◌, ◌≤◌, ◌⊎◌, inl, inr, List, [], ◌∷◌, ◌++◌, map, length, Bool, true, false, ◌&&◌, not, refl, sym, ap, subst, ◌∙◌, arith}
use Rattle.bdd_ops.specs.Functions.{Function}
use Rattle.smv_rings.specs.Functions.{never, DependsBelow}
use Rattle.smv_rings.specs.Lists.{Lists, State, at, IsLists}
use Rattle.smv_rings.specs.Paths.{InRing, Violates}
use Rattle.smv_rings.specs.Schedule.{Act, Line, lines, after, left_by, made_by, look_of, forth, back, turn, ring, kept_at, turn_lines, schedule, looked, functions, first_lines, first_all, one_by_one}
use Rattle.smv_rings.specs.Schedule.Look.{Pass, Ring}
use Rattle.smv_rings.specs.Schedule.Act.{Join, Out, Look_at, Lower}
use Rattle.smv_rings.proofs.Early.{and_true, equal_or_not}
use Rattle.smv_rings.proofs.Image.{both_at}
use Rattle.smv_rings.proofs.PathLaws.{violates_of}
use Rattle.smv_rings.proofs.Rings.{ring_facts, ring_grows, ring_to, ring_from, looked_from}
use Rattle.smv_rings.proofs.Tables.{some_or_never, below_reads}
use Rattle.smv_rings.proofs.Turns.{current_agree}
use Rattle.law_events.specs.Events.{Budget, Settles, Decides, AllUneventful, First, IsFirstEvent}
use Rattle.law_events.specs.Events.Event.{Images}
use Rattle.law_events.proofs.Meaning.{first_split, pass_split, lines_append}
use Rattle.law_obligations.specs.May.{AbsState}
use Rattle.law_obligations.specs.Readings.{PosedCase, IsCase}
use Rattle.law_obligations.specs.CasePaths.{IsViolatingPath, IsInRing}
use Rattle.law_reports.specs.Verdicts.{IsSpent}
use Rattle.law_arrangements.specs.Arrangements.{Arrangement, IsArrangement}
use Rattle.law_arrangements.specs.ArrangedLists.{lists_over}
use Rattle.law_arrangements.proofs.Below.{are_lists}
use Rattle.law_arrangements.proofs.Paths.{paths_found}
use Rattle.law_arrangements.proofs.Rings.{rings_differ}

-- ---- lines that decide

line_is : (x y : Line) (xs ys : List Line) → x ∷ xs ≡ y ∷ ys → x ≡ y
line_is x y xs ys e = cc

lines_are : (x y : Line) (xs ys : List Line) → x ∷ xs ≡ y ∷ ys → xs ≡ ys
lines_are x y xs ys e = cc

no_lines : (before behind : List Line) (line : Line) → [] ≡ before ++ (line ∷ behind) → ⊥
no_lines [] behind line e = cc
no_lines (x ∷ before) behind line e = cc

first_one : (b : Budget) (line : Line) → First b (line ∷ []) Images → Decides b line Images
unfolding First
first_one b line ([], x, behind, is, passed, decides) = subst (λ z. Decides b z Images) (sym (line_is line x [] behind is)) decides
first_one b line (z ∷ before, x, behind, is, passed, decides) = absurd (no_lines before behind x (lines_are line z [] (before ++ (x ∷ behind)) is))

first_none : (b : Budget) → First b [] Images → ⊥
unfolding First
first_none b (before, line, behind, is, passed, decides) = no_lines before behind line is

none_of_acts : (b : Budget) (kept : List Function) (p : Function) (acts : List Act) → First b (lines kept p acts) Images → ⊥
none_of_acts b kept p [] first = first_none b first
none_of_acts b kept p (act ∷ acts) first = elim (first_split b (lines kept p (act ∷ [])) (lines kept (left_by act p) acts) Images first) [
  | inl here ↦ by_act act (first_one b (record { kept = kept; source = p ∷ []; made = made_by act p; look = look_of act }) here).1
  | inr later ↦ none_of_acts b kept (left_by act p) acts later.1
]
  where
    by_act : (a : Act) → Settles b.images (made_by a p) (look_of a) Images → ⊥
    by_act (Join f) is = is
    by_act (Out v) is = is
    by_act (Look_at j f) is = is
    by_act Lower is = is

none_of_ones : (b : Budget) (kept fs : List Function) → First b (one_by_one kept fs) Images → ⊥
none_of_ones b kept [] first = first_none b first
none_of_ones b kept (f ∷ fs) first = elim (first_split b (record { kept = kept; source = []; made = f; look = Pass } ∷ []) (one_by_one (kept ++ (f ∷ [])) fs) Images first) [
  | inl here ↦ (first_one b (record { kept = kept; source = []; made = f; look = Pass }) here).1
  | inr later ↦ none_of_ones b (kept ++ (f ∷ [])) fs later.1
]

none_of_firsts : (b : Budget) (kept fs : List Function) → First b (first_lines kept fs) Images → ⊥
none_of_firsts b kept [] first = first_none b first
none_of_firsts b kept (f ∷ fs) first = elim (first_split b (record { kept = kept; source = []; made = f; look = Pass } ∷ []) (lines kept f (map Join fs)) Images first) [
  | inl here ↦ (first_one b (record { kept = kept; source = []; made = f; look = Pass }) here).1
  | inr later ↦ none_of_acts b kept f (map Join fs) later.1
]

module _ (l : Lists) (b : Budget) where
  none_at_start : First b (schedule l 0) Images → ⊥
  none_at_start first = elim (first_split b (one_by_one [] (functions l)) (first_lines (functions l) l.now_first ++ lines (functions l) (first_all l.now_first) (Look_at 0 l.broken_first ∷ map Join l.before_first)) Images first) [
    | inl here ↦ none_of_ones b [] (functions l) here
    | inr later ↦ elim (first_split b (first_lines (functions l) l.now_first) (lines (functions l) (first_all l.now_first) (Look_at 0 l.broken_first ∷ map Join l.before_first)) Images later.1) [
      | inl here ↦ none_of_firsts b (functions l) l.now_first here
      | inr behind ↦ none_of_acts b (functions l) (first_all l.now_first) (Look_at 0 l.broken_first ∷ map Join l.before_first) behind.1
    ]
  ]

  -- lines that pass found nothing
  passed_start : AllUneventful b (schedule l 0) → looked l 0 ≡ never
  unfolding AllUneventful
  passed_start pass =
      let rest = (pass_split b (one_by_one [] (functions l)) (first_lines (functions l) l.now_first ++ lines (functions l) (first_all l.now_first) (Look_at 0 l.broken_first ∷ map Join l.before_first)) pass).1 in
      let last = (pass_split b (first_lines (functions l) l.now_first) (lines (functions l) (first_all l.now_first) (Look_at 0 l.broken_first ∷ map Join l.before_first)) rest).1 in
      last.0.1

  passed_turn : (k : ℕ) → AllUneventful b (lines (kept_at l k) (ring l k) (turn l k)) → looked l (suc k) ≡ never
  unfolding AllUneventful
  passed_turn k pass =
      let all = subst (AllUneventful b) (lines_append (kept_at l k) (ring l k) (forth l) (Look_at (suc k) l.broken_step ∷ back l)) pass in
      (pass_split b (lines (kept_at l k) (ring l k) (forth l)) (lines (kept_at l k) (after (ring l k) (forth l)) (Look_at (suc k) l.broken_step ∷ back l)) all).1.0.1

  all_passed : (n i : ℕ) → i ≤ n → AllUneventful b (schedule l n) → looked l i ≡ never
  all_passed zero i le pass = let is : 0 ≡ i = omega arith in subst (λ (j : ℕ). looked l j ≡ never) is (passed_start pass)
  all_passed (suc n) i le pass =
      let all = pass_split b (schedule l n) (turn_lines l n) pass in
      elim (equal_or_not i (suc n)) [
        | inl e ↦ subst (λ (j : ℕ). looked l j ≡ never) (sym e) (passed_turn n (pass_split b (lines (kept_at l n) (ring l n) (turn l n)) _ all.1).0)
        | inr ne ↦ all_passed n i (omega arith) all.0
      ]

  -- images are used up at a ring that differs from the one before it, and nothing was found
  images_at : (n : ℕ) → First b (schedule l n) Images → (m : ℕ) × (suc m ≡ b.images) × (ring l (suc m) ≢ ring l m) × ((i : ℕ) → i ≤ suc m → looked l i ≡ never)
  images_at zero first = absurd (none_at_start first)
  images_at (suc n) first = elim (first_split b (schedule l n) (turn_lines l n) Images first) [
    | inl early ↦ images_at n early
    | inr late ↦ elim (first_split b (lines (kept_at l n) (ring l n) (turn l n)) (record { kept = kept_at l n; source = after (ring l n) (turn l n) ∷ []; made = ring l (suc n); look = Ring (suc n) (ring l n) } ∷ []) Images late.1) [
      | inl here ↦ absurd (none_of_acts b (kept_at l n) (ring l n) (turn l n) here)
      | inr close ↦
          let decides = first_one b (record { kept = kept_at l n; source = after (ring l n) (turn l n) ∷ []; made = ring l (suc n); look = Ring (suc n) (ring l n) }) close.1 in (
            n,
            decides.1.1,
            decides.1.0,
            λ i le. elim (equal_or_not i (suc n)) [
              | inl e ↦ subst (λ (j : ℕ). looked l j ≡ never) (sym e) (passed_turn n close.0)
              | inr ne ↦ all_passed n i (omega arith) late.0
            ],
          )
    ]
  ]

-- ---- rings that differ

module _ (l : Lists) (ok : IsLists l) where
  abbrev new_in : ℕ → Function
  new_in m a = ring l (suc m) a && not (ring l m a)

  new_below : (m : ℕ) → DependsBelow (2 * l.bits) (new_in m)
  new_below m a d same = ap (λ (x : Bool). x && not (ring l m a)) ((ring_facts l ok (suc m)).0 a d same) ∙ ap (λ (x : Bool). ring l (suc m) d && not x) ((ring_facts l ok m).0 a d same)

  some_new : (m : ℕ) → ring l (suc m) ≢ ring l m → (s : State) × InRing l (suc m) s × (InRing l m s → ⊥)
  some_new m differ = elim (some_or_never (2 * l.bits) 0 (new_in m) (below_reads (2 * l.bits) (new_in m) (new_below m))) [
    | inl found ↦
        let a = found.0 in
        let s : State = λ b. a (2 * b) in
        let parts = and_true (ring l (suc m) a) (not (ring l m a)) found.1 in
        let same : (k : ℕ) → ring l k a ≡ ring l k (at s) = λ k. current_agree (2 * l.bits) (ring l k) (ring_facts l ok k).0 (ring_facts l ok k).1 a (at s) (both_at a) in
        (s, ring_to l ok (suc m) s (sym (same (suc m)) ∙ parts.0), λ old. clash (ring l m a) parts.1 (same m ∙ ring_from l ok m s old))
    | inr none ↦ absurd (differ (λ i a. alike (ring l (suc m) a) (ring l m a) (ring_grows l ok m a) (none a) i))
  ]
    where
      clash : (x : Bool) → not x ≡ true → x ≡ true → ⊥
      clash true e g = cc
      clash false e g = cc

      alike : (x y : Bool) → (y ≡ true → x ≡ true) → x && not y ≡ false → x ≡ y
      alike true true grows e = refl
      alike true false grows e = absurd (cc)
      alike false true grows e = grows refl
      alike false false grows e = refl

module _ (c : PosedCase) (is : IsCase c) (o : Arrangement) (ok : IsArrangement c o) where
  longer : (steps : ℕ) → ((i : ℕ) → i ≤ steps → (s : State) → Violates (lists_over c o) i s → ⊥) → (path : List AbsState) → IsViolatingPath c.problem path → suc steps < length path
  longer steps none [] v = absurd (false_true v.is_violating)
    where
      false_true : false ≡ true → ⊥
      false_true e = cc
  longer steps none (a ∷ more) v = elim (cases (length more) steps) [
    | inl le ↦
        let r = paths_found c is o ok (length more) (a ∷ more) (omega arith) v in
        absurd (none (length more) le (r.0 (length more)) (violates_of (lists_over c o) (length more) r.0 r.1))
    | inr lt ↦ omega arith
  ]
    where
      cases : (m n : ℕ) → (m ≤ n) ⊎ (n < m)
      cases m n = grind arith

  pub images_are_spent : (nodes steps : ℕ) → IsFirstEvent (lists_over c o) nodes steps Images → IsSpent c steps
  images_are_spent nodes steps first =
      let l : Lists = lists_over c o in
      let l_ok = are_lists c o in
      let r = images_at l (record { vars = 2 * l.bits; nodes = nodes; images = steps }) steps first in
      let m = r.0 in
      let all : suc m ≡ steps = r.1 in
      let before : m ≡ steps - 1 = omega arith in
      let new = some_new l l_ok m r.2 in
      let found = rings_differ c is o ok (suc m) m new.0 new.1 new.2 in
      record {
        longer = longer steps (λ i le s. looked_from l l_ok i (r.3 i (omega arith)) s);
        state = found.0;
        is_reached = subst (λ (k : ℕ). IsInRing c.problem k found.0) all found.1;
        is_new = λ ring. found.2 (subst (λ (k : ℕ). IsInRing c.problem k found.0) (sym before) ring);
      }
