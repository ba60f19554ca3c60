-- What is tried of cases from no old sets is what is found of them.
use Rattle.std.proofs.Common.{◌≡◌, ◌∙◌, ◌*◌, ◌-◌, inl, inr, ℕ, zero, suc, ◌+◌, ◌<◌, ◌≤◌, List, [], ◌∷◌, ◌++◌, length, drop, take, Option, Some, None, refl, sym, ap, subst, arith}
use Rattle.std.specs.Prelude.{option_map, slice_get, slice_range}
use Rattle.std.proofs.lemmas.Slice.{between_is}
use Rattle.std.proofs.lemmas.Option.{slice_get_past}
use Rattle.law_events.specs.Events.{Event}
use Rattle.smv_core.specs.declared.flat.Design.{Design}
use Rattle.smv_core.specs.declared.flat.Leaf.{Leaf}
use Rattle.smv_core.specs.declared.flat.Choice.{Choice}
use Rattle.smv_core.specs.declared.flat.Case.{Case as CaseData}
use Rattle.law_obligations.specs.Sets.{Has, first, later}
use Rattle.law_obligations.proofs.OneOfEach.{get_Has}
use Rattle.law_problems.specs.Parts.{IsCaseOf, width_fault}
use Rattle.smv_decide.specs.Leaves.{AreCases}
use Rattle.smv_core.specs.declared.flat.Class.{Class}
use Rattle.law_obligations.specs.Readings.{PosedCase, state_bits}
use Rattle.law_reports.specs.CaseLists.{case_lists}
use Rattle.smv_rings.specs.Schedule.{ring}
use Rattle.smv_problem.specs.declared.report.Verdict.{Verdict}
use Rattle.smv_problem.specs.declared.report.Verdict.TheVariants.{True, False, UnknownNodes, UnknownSteps}
use Rattle.bdd_ops.specs.Functions.{Function}
use Rattle.smv_proof.specs.declared.proof.KeptSet.{KeptSet}
use Rattle.smv_proof.specs.Kept.{kept_set}
use Rattle.law_checked_proofs.specs.Cases.{UnitCase, cases_from}
use Rattle.law_checked_proofs.specs.Kept.{IsKept, AreKept}
use Rattle.law_checked_proofs.specs.Resumed.{Stands, FailsFirst, AreSetsOf}
use Rattle.smv_kept_cases.specs.Tried.{IsLeafTried}
use Rattle.smv_look_sets.specs.declared.sought.Sought.{Sought}
use Rattle.smv_look_sets.specs.declared.sought.Sought.TheVariants.{NoCase}
use Rattle.smv_look_sets.specs.Sought.{IsFoundOf, IsSought, found_in, numbered}

-- the same case under another number
abbrev pub at_number : ℕ → UnitCase → UnitCase
at_number k c = record c { number = k }

module _ (nodes images : ℕ) where
  -- without old sets each set is that of the search
  kept_of : (cases : List UnitCase) (sets : List KeptSet) → AreSetsOf [] nodes images cases sets → AreKept nodes images cases sets
  kept_of [] [] are = tt
  kept_of [] (x ∷ sets) are = absurd are
  kept_of (c ∷ cases) [] are = absurd are
  kept_of (c ∷ cases) (set ∷ sets) (inl (is_old, serves), all) = absurd (cc (is_old))
  kept_of (c ∷ cases) (set ∷ sets) (inr (new, kept), all) = (kept, kept_of cases sets all)

  -- all cases
  pub all_found : (n : ℕ) (cases : List UnitCase) (verdict : Verdict) (sets : List KeptSet) → IsLeafTried [] nodes images cases verdict sets → IsFoundOf nodes images n (Some cases) (found_in verdict sets)
  all_found n cases True sets tried = kept_of cases sets (tried.kept refl)
  all_found n cases (False case elements path) sets tried = (tried.told, λ e. absurd (cc (e)))
  all_found n cases (UnknownNodes case count) sets tried = (tried.told, λ e. absurd (cc (e)))
  all_found n cases (UnknownSteps case) sets tried = (tried.told, λ e. absurd (cc (e)))

  -- ---- a case alone

  set_numbered : (k n : ℕ) (unit : List ℕ) (number : ℕ) (f : Function) → numbered k (kept_set n unit number f) ≡ kept_set n unit k f
  unfolding kept_set
  set_numbered k n unit number f = refl

  kept_at : (k : ℕ) (c : UnitCase) (set : KeptSet) → IsKept nodes images c set → IsKept nodes images (at_number k c) (numbered k set)
  kept_at k c set kept = record {
    rings = kept.rings;
    is_shut = kept.is_shut;
    is_kept = ap (numbered k) kept.is_kept ∙ set_numbered k (2 * state_bits c.case) c.unit c.number (ring (case_lists c.case) kept.rings);
  }

  -- a list of one is cut nowhere else
  not_behind : (x : UnitCase) (before behind : List UnitCase) → [] ≡ before ++ (x ∷ behind) → ⊥
  not_behind x [] behind e = absurd (cc (e))
  not_behind x (y ∷ before) behind e = absurd (cc (e))

  head_is : {x y : UnitCase} {xs ys : List UnitCase} → x ∷ xs ≡ y ∷ ys → x ≡ y
  head_is e = cc

  rest_is : {x y : UnitCase} {xs ys : List UnitCase} → x ∷ xs ≡ y ∷ ys → xs ≡ ys
  rest_is e = cc

  is_alone : (c x : UnitCase) (before behind : List UnitCase) → c ∷ [] ≡ before ++ (x ∷ behind) → c ≡ x
  is_alone c x [] behind e = head_is e
  is_alone c x (y ∷ before) behind e = absurd (not_behind x before behind (rest_is e))

  none_stands : (c : UnitCase) → Stands [] nodes images c → ⊥
  none_stands c (set, is_old, serves) = absurd (cc (is_old))

  fails_at : (k : ℕ) (c x : UnitCase) (v : Event) → FailsFirst [] nodes images (c ∷ []) x v → FailsFirst [] nodes images (at_number k c ∷ []) (at_number k x) v
  fails_at k c x v fails = record {
    before = [];
    behind = [];
    stands = ap (λ (y : UnitCase). at_number k y ∷ []) (is_alone c x fails.before fails.behind fails.stands);
    are_true = λ y h. elim h [ ];
    is_verdict = fails.is_verdict;
    is_not = fails.is_not;
    is_new = none_stands (at_number k x);
  }

  -- the case is tried as the first of a list of its own, and has another number
  pub alone_found : (n k : ℕ) (c : UnitCase) (verdict : Verdict) (sets made : List KeptSet) → IsLeafTried [] nodes images (c ∷ []) verdict sets → ((set : KeptSet) → sets ≡ set ∷ [] → made ≡ numbered k set ∷ [])
      → IsFoundOf nodes images n (Some (at_number k c ∷ [])) (found_in verdict made)
  alone_found n k c True sets made tried is = by sets (kept_of (c ∷ []) sets (tried.kept refl)) is
    where
      by : (sets : List KeptSet) → AreKept nodes images (c ∷ []) sets → ((set : KeptSet) → sets ≡ set ∷ [] → made ≡ numbered k set ∷ []) → AreKept nodes images (at_number k c ∷ []) made
      by [] kept is = absurd kept
      by (x ∷ y ∷ sets) kept is = absurd kept.1
      by (x ∷ []) kept is = subst (AreKept nodes images (at_number k c ∷ [])) (sym (is x refl)) (kept_at k c x kept.0, tt)
  alone_found n k c (False case elements path) sets made tried is =
      let (x, e, (depth, fails, shown)) = tried.told in
      ((at_number k x, e, (depth, fails_at k c x _ fails, shown)), λ e. absurd (cc (e)))
  alone_found n k c (UnknownNodes case count) sets made tried is =
      let (x, e, fails) = tried.told in
      ((at_number k x, e, fails_at k c x _ fails), λ e. absurd (cc (e)))
  alone_found n k c (UnknownSteps case) sets made tried is =
      let (x, e, fails) = tried.told in
      ((at_number k x, e, fails_at k c x _ fails), λ e. absurd (cc (e)))

-- ---- the case at a place

-- of a list, by itself
pub one_of : {X : Type 0} (xs : List X) (k : ℕ) (x : X) → k < length xs → slice_get xs k ≡ Some x → slice_range xs k (k + 1) ≡ x ∷ []
one_of {X} [] k x lt is = absurd (omega (arith, lt))
one_of {X} (y ∷ xs) zero x lt is = between_is (y ∷ xs) 0 1 ∙ by is
  where
    by : Some y ≡ Some x → y ∷ [] ≡ x ∷ []
    by e = cc
one_of {X} (y ∷ xs) (suc k) x lt is =
    let next : suc k + 1 ≡ suc (k + 1) = omega arith in
    between_is (y ∷ xs) (suc k) (suc k + 1) ∙ (ap (λ m. drop (suc k) (take m (y ∷ xs))) next ∙ (sym (between_is xs k (k + 1)) ∙ one_of xs k x (omega (arith, lt)) is))

-- its case of a unit
pub case_there : (unit : List ℕ) (case_for : List Class → PosedCase) (n : ℕ) (cases : List (List Class)) (k : ℕ) (classes : List Class) (m : ℕ) → m ≡ n + k → slice_get cases k ≡ Some classes
    → slice_get (cases_from unit case_for n cases) k ≡ Some (record { unit = unit; number = m; classes = classes; case = case_for classes })
case_there unit case_for n [] k classes m same is = absurd (cc (is))
case_there unit case_for n (x ∷ cases) zero classes m same is =
    let here : n ≡ m = omega (arith, same) in
    ap (λ (xs : List Class). Some (record { unit = unit; number = n; classes = xs; case = case_for xs })) (head is) ∙ ap (λ (j : ℕ). Some (record { unit = unit; number = j; classes = classes; case = case_for classes })) here
  where
    head : Some x ≡ Some classes → x ≡ classes
    head e = cc
case_there unit case_for n (x ∷ cases) (suc k) classes m same is = case_there unit case_for (suc n) cases k classes m (omega (arith, same)) is

-- it is a case where all are
pub one_is_case : (d : Design) (leaf : Leaf) (choice : Choice) (cases shown : List CaseData) (k : ℕ) (case : CaseData) → AreCases d leaf choice cases → slice_get cases k ≡ Some case → shown ≡ case ∷ [] → AreCases d leaf choice shown
one_is_case d leaf choice cases shown k case are is same = subst (AreCases d leaf choice) (sym same) (record {
  are_cases = λ c h. subst (λ (x : CaseData). IsCaseOf d leaf choice x.classes) (alone c h) (are.are_cases case (get_Has cases k case is));
  have_width = λ c h. subst (λ (x : CaseData). width_fault d leaf choice x.classes ≡ None) (alone c h) (are.have_width case (get_Has cases k case is));
})
  where
    alone : (c : CaseData) → Has (case ∷ []) c → case ≡ c
    alone _ first = refl
    alone c (later h) = elim h [ ]

pub cases_long : (unit : List ℕ) (case_for : List Class → PosedCase) (n : ℕ) (cases : List (List Class)) → length (cases_from unit case_for n cases) ≡ length cases
cases_long unit case_for n [] = refl
cases_long unit case_for n (x ∷ cases) = ap (λ m. suc m) (cases_long unit case_for (suc n) cases)

module _ (nodes images : ℕ) (cases : List UnitCase) (number place : ℕ) (before : place ≡ number - 1) where
  -- what is found of the case at the place before a number
  pub one_found : (n : ℕ) (sought : Sought) → n ≡ length cases → IsFoundOf nodes images n (option_map (λ c. c ∷ []) (slice_get cases place)) sought → IsSought nodes images cases (Some number) sought
  one_found n sought long found =
      subst (λ (m : ℕ). IsFoundOf nodes images m (option_map (λ c. c ∷ []) (slice_get cases (number - 1))) sought) long
      (subst (λ (k : ℕ). IsFoundOf nodes images n (option_map (λ c. c ∷ []) (slice_get cases k)) sought) before found)

  -- there is none
  pub none_found : (count : ℕ) → count ≡ length cases → length cases ≤ place → IsSought nodes images cases (Some number) (NoCase count)
  none_found count long le =
      subst (λ (o : Option UnitCase). IsFoundOf nodes images (length cases) (option_map (λ c. c ∷ []) o) (NoCase count)) (sym (slice_get_past cases (number - 1) (subst (λ (k : ℕ). length cases ≤ k) before le))) long
