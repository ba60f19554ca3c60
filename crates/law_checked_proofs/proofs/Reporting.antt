-- Reports of what is resumed: beside a proof all is true, and without old sets they are the right ones.
use Rattle.std.proofs.Common.{◌≡◌, ◌∙◌, inl, inr, ℕ, suc, List, [], ◌∷◌, ◌++◌, map, refl, sym, ap, subst, true≢false}
use Rattle.smv_core.specs.declared.flat.Class.{Class}
use Rattle.law_events.specs.Events.{Event, IsFirstEvent}
use Rattle.law_events.specs.Events.Event.{Counted, Reached, Shut, Images}
use Rattle.law_events.specs.Laws.{OneVerdict}
use Rattle.smv_bits.specs.declared.Bits.TheVariants.{Declared}
use Rattle.law_obligations.specs.Sets.{Has, first, later}
use Rattle.law_obligations.proofs.Members.{Has-left, Has-right}
use Rattle.law_obligations.specs.Outlines.{Entry, Script}
use Rattle.law_obligations.specs.Readings.{PosedCase}
use Rattle.law_obligations.specs.Scripts.{case_at, classes_of}
use Rattle.smv_problem.specs.declared.report.Verdict.{Verdict as Told}
use Rattle.smv_problem.specs.declared.report.Verdict.TheVariants.{True, False, UnknownNodes, UnknownSteps}
use Rattle.smv_problem.specs.declared.report.UnitResult.{UnitResult}
use Rattle.law_reports.specs.CaseLists.{case_lists}
use Rattle.law_reports.specs.Verdicts.{is_shut, IsVerdictFor, AreTrueCases}
use Rattle.law_reports.specs.Verdicts.{FailsFirst as FailsFirstOf}
use Rattle.law_reports.specs.Reports.{AllTrueUnits, IsShown}
use Rattle.law_reports.specs.Reports.{IsToldOf, AreResultsFrom as AreRightResults}
use Rattle.smv_proof.specs.declared.proof.KeptSet.{KeptSet}
use Rattle.law_checked_proofs.specs.Cases.{UnitCase, cases_from, unit_name, cases_at, unit_cases_from}
use Rattle.law_checked_proofs.specs.Resumed.{Stands, IsTrue, AreTrue, FailsFirst, IsToldBy, AreResultsFrom, AreSetsOf}

-- ---- beside a proof

module _ (one_verdict : OneVerdict) (old : List KeptSet) (nodes images : ℕ) where
  pub true_each : (cases : List UnitCase) (sets : List KeptSet) → AreSetsOf old nodes images cases sets → (c : UnitCase) → Has cases c → IsTrue old nodes images c
  true_each [] sets all c h = elim h [ ]
  true_each (x ∷ cases) [] all c h = absurd all
  true_each (x ∷ cases) (set ∷ sets) (inl (is_old, serves), all) _ first = inl (set, is_old, serves)
  true_each (x ∷ cases) (set ∷ sets) (inr (new, kept), all) _ first = inr (kept.rings, kept.is_shut)
  true_each (x ∷ cases) (set ∷ sets) all c (later h) = true_each cases sets all.1 c h

  in_middle : (before behind : List UnitCase) (c : UnitCase) → Has (before ++ (c ∷ behind)) c
  in_middle [] behind c = first
  in_middle (x ∷ before) behind c = later (in_middle before behind c)

  no_failure : (cases : List UnitCase) → AreTrue old nodes images cases → (c : UnitCase) (v : Event) → FailsFirst old nodes images cases c v → ⊥
  no_failure cases true_all c v fail = by_case (true_all c (subst (λ (cs : List UnitCase). Has cs c) (sym fail.stands) (in_middle fail.before fail.behind c)))
    where
      by_case : IsTrue old nodes images c → ⊥
      by_case (inl stands) = fail.is_new stands
      by_case (inr (k, shut)) = true≢false (ap is_shut (one_verdict (case_lists c.case) nodes images (Shut k) v shut fail.is_verdict) ∙ fail.is_not)

  told_true : (cases : List UnitCase) → AreTrue old nodes images cases → (verdict : Told) → IsToldBy old nodes images cases verdict → verdict ≡ True
  told_true cases true_all True told = refl
  told_true cases true_all (False case elements path) (c, e, (k, fail, shown)) = absurd (no_failure cases true_all c (Reached k) fail)
  told_true cases true_all (UnknownNodes case count) (c, e, fail) = absurd (no_failure cases true_all c (Counted count) fail)
  told_true cases true_all (UnknownSteps case) (c, e, fail) = absurd (no_failure cases true_all c Images fail)

  pub results_true : (s : Script) (u : ℕ) (entries : List Entry) (results : List UnitResult) → AreTrue old nodes images (unit_cases_from s u entries) → AreResultsFrom old nodes images s u entries results → AllTrueUnits results
  results_true s u [] [] true_all are r h = elim h [ ]
  results_true s u [] (x ∷ results) true_all are r h = absurd are
  results_true s u (entry ∷ entries) [] true_all are r h = absurd are
  results_true s u (entry ∷ entries) (x ∷ results) true_all are _ first =
      told_true (cases_at s u entry) (λ c h. true_all c (Has-left (unit_cases_from s (suc u) entries) h)) x.verdict are.0.verdict
  results_true s u (entry ∷ entries) (x ∷ results) true_all are r (later h) =
      results_true s (suc u) entries results (λ c h. true_all c (Has-right (cases_at s u entry) h)) are.1 r h

-- ---- without old sets

module _ (unit : List ℕ) (case_for : List Class → PosedCase) where
  abbrev case_of : ℕ → List Class → UnitCase
  case_of n classes = record { unit = unit; number = n; classes = classes; case = case_for classes }

  of_cases : (k : ℕ) (cases : List (List Class)) (c : UnitCase) → Has (cases_from unit case_for k cases) c → Has cases c.classes × (c.case ≡ case_for c.classes)
  of_cases k [] c h = elim h [ ]
  of_cases k (x ∷ cases) _ first = (first, refl)
  of_cases k (x ∷ cases) c (later h) = let r = of_cases (suc k) cases c h in (later r.0, r.1)

  classes_are : (k : ℕ) (cases : List (List Class)) → map (λ (c : UnitCase). c.classes) (cases_from unit case_for k cases) ≡ cases
  classes_are k [] = refl
  classes_are k (x ∷ cases) = ap (λ (xs : List (List Class)). x ∷ xs) (classes_are (suc k) cases)

  -- cut before a case
  pub record IsCut (k : ℕ) (before : List (List Class)) (classes : List Class) (behind : List (List Class)) : Type 0 where
    pub number : ℕ
    pub rest : List UnitCase
    pub stands : cases_from unit case_for k (before ++ (classes ∷ behind)) ≡ cases_from unit case_for k before ++ (case_of number classes ∷ rest)

  cut_at : (k : ℕ) (before : List (List Class)) (classes : List Class) (behind : List (List Class)) → IsCut k before classes behind
  cut_at k [] classes behind = record { number = k; rest = cases_from unit case_for (suc k) behind; stands = refl }
  cut_at k (x ∷ before) classes behind =
      let r = cut_at (suc k) before classes behind in
      record { number = r.number; rest = r.rest; stands = ap (λ (cs : List UnitCase). case_of k x ∷ cs) r.stands }

map_more : (xs ys : List UnitCase) → map (λ (c : UnitCase). c.classes) (xs ++ ys) ≡ map (λ (c : UnitCase). c.classes) xs ++ map (λ (c : UnitCase). c.classes) ys
map_more [] ys = refl
map_more (x ∷ xs) ys = ap (λ (zs : List (List Class)). x.classes ∷ zs) (map_more xs ys)

Has-classes : {cases : List UnitCase} {classes : List Class} → Has (map (λ (c : UnitCase). c.classes) cases) classes → (c : UnitCase) × Has cases c × (c.classes ≡ classes)
Has-classes {cases = []} h = elim h [ ]
Has-classes {cases = x ∷ cases} first = (x, first, refl)
Has-classes {cases = x ∷ cases} (later h) = let r = Has-classes {cases = cases} h in (r.0, later r.1, r.2)

module _ (nodes images : ℕ) where
  none_stands : (c : UnitCase) → Stands [] nodes images c → ⊥
  none_stands c (set, is_old, serves) = absurd (cc (is_old))

  searched : (c : UnitCase) → IsTrue [] nodes images c → (k : ℕ) × IsFirstEvent (case_lists c.case) nodes images (Shut k)
  searched c (inl stands) = absurd (none_stands c stands)
  searched c (inr is) = is

  module _ (s : Script) (u : ℕ) (entry : Entry) where
    abbrev cases : List UnitCase
    cases = cases_at s u entry

    abbrev verdict_of : List Class → Event → Type 0
    verdict_of = IsVerdictFor (case_at s u entry) Declared nodes images

    true_to : (some : List UnitCase) → ((c : UnitCase) → Has some c → c.case ≡ case_at s u entry c.classes) → AreTrue [] nodes images some → AreTrueCases verdict_of (map (λ (c : UnitCase). c.classes) some)
    true_to some of true_all classes h =
        let r = Has-classes h in
        let is = searched r.0 (true_all r.0 r.1) in
        (is.0, subst (λ (x : List Class). verdict_of x (Shut is.0)) r.2 (subst (λ (x : PosedCase). IsFirstEvent (case_lists x) nodes images (Shut is.0)) (of r.0 r.1) is.1))

    true_from : (k : ℕ) (some : List (List Class)) → AreTrueCases verdict_of some → AreTrue [] nodes images (cases_from (unit_name s entry) (case_at s u entry) k some)
    true_from k some true_all c h =
        let r = of_cases (unit_name s entry) (case_at s u entry) k some c h in
        let is = true_all c.classes r.0 in
        inr (is.0, subst (λ (x : PosedCase). IsFirstEvent (case_lists x) nodes images (Shut is.0)) (sym r.1) is.1)

    in_cut : (before behind : List UnitCase) (c : UnitCase) → Has (before ++ (c ∷ behind)) c
    in_cut [] behind c = first
    in_cut (x ∷ before) behind c = later (in_cut before behind c)

    own : (c : UnitCase) → Has cases c → c.case ≡ case_at s u entry c.classes
    own c h = (of_cases (unit_name s entry) (case_at s u entry) 0 (classes_of s entry) c h).1

    fails_to : (c : UnitCase) (v : Event) → FailsFirst [] nodes images cases c v → (c.case ≡ case_at s u entry c.classes) × FailsFirstOf verdict_of (classes_of s entry) c.classes v
    fails_to c v fail =
        let all_own = λ (x : UnitCase) (h : Has (fail.before ++ (c ∷ fail.behind)) x). own x (subst (λ (cs : List UnitCase). Has cs x) (sym fail.stands) h) in
        let own_case = all_own c (in_cut fail.before fail.behind c) in (
          own_case,
          record {
            before = map (λ (x : UnitCase). x.classes) fail.before;
            behind = map (λ (x : UnitCase). x.classes) fail.behind;
            stands = sym (classes_are (unit_name s entry) (case_at s u entry) 0 (classes_of s entry)) ∙ (ap (λ (cs : List UnitCase). map (λ (x : UnitCase). x.classes) cs) fail.stands ∙ map_more fail.before (c ∷ fail.behind));
            are_true = true_to fail.before (λ x h. all_own x (Has-left (c ∷ fail.behind) h)) fail.are_true;
            is_verdict = subst (λ (x : PosedCase). IsFirstEvent (case_lists x) nodes images v) own_case fail.is_verdict;
            is_not = fail.is_not;
          },
        )

    fails_from : (classes : List Class) (v : Event) → FailsFirstOf verdict_of (classes_of s entry) classes v → (n : ℕ) × FailsFirst [] nodes images cases (case_of (unit_name s entry) (case_at s u entry) n classes) v
    fails_from classes v fail =
        let r = cut_at (unit_name s entry) (case_at s u entry) 0 fail.before classes fail.behind in (
          r.number,
          record {
            before = cases_from (unit_name s entry) (case_at s u entry) 0 fail.before;
            behind = r.rest;
            stands = ap (cases_from (unit_name s entry) (case_at s u entry) 0) fail.stands ∙ r.stands;
            are_true = true_from 0 fail.before fail.are_true;
            is_verdict = fail.is_verdict;
            is_not = fail.is_not;
            is_new = none_stands (case_of (unit_name s entry) (case_at s u entry) r.number classes);
          },
        )

    told_to : (verdict : Told) → IsToldBy [] nodes images cases verdict → IsToldOf s Declared nodes images u entry verdict
    told_to True told = subst (AreTrueCases verdict_of) (classes_are (unit_name s entry) (case_at s u entry) 0 (classes_of s entry)) (true_to cases own told)
    told_to (False case elements path) (c, e, (k, fail, shown)) =
        let r = fails_to c (Reached k) fail in (
          k,
          subst (λ (x : List Class). FailsFirstOf verdict_of (classes_of s entry) x (Reached k)) e r.1,
          subst (λ (x : List Class). IsShown (case_at s u entry x) k elements path) e (subst (λ (x : PosedCase). IsShown x k elements path) r.0 shown),
        )
    told_to (UnknownNodes case count) (c, e, fail) = subst (λ (x : List Class). FailsFirstOf verdict_of (classes_of s entry) x (Counted count)) e (fails_to c (Counted count) fail).1
    told_to (UnknownSteps case) (c, e, fail) = subst (λ (x : List Class). FailsFirstOf verdict_of (classes_of s entry) x Images) e (fails_to c Images fail).1

    told_from : (verdict : Told) → IsToldOf s Declared nodes images u entry verdict → IsToldBy [] nodes images cases verdict
    told_from True told = true_from 0 (classes_of s entry) told
    told_from (False case elements path) (k, fail, shown) =
        let r = fails_from case.classes (Reached k) fail in
        (case_of (unit_name s entry) (case_at s u entry) r.0 case.classes, refl, (k, r.1, shown))
    told_from (UnknownNodes case count) fail = let r = fails_from case.classes (Counted count) fail in (case_of (unit_name s entry) (case_at s u entry) r.0 case.classes, refl, r.1)
    told_from (UnknownSteps case) fail = let r = fails_from case.classes Images fail in (case_of (unit_name s entry) (case_at s u entry) r.0 case.classes, refl, r.1)

  pub results_to : (s : Script) (u : ℕ) (entries : List Entry) (results : List UnitResult) → AreResultsFrom [] nodes images s u entries results → AreRightResults s Declared nodes images u entries results
  results_to s u [] [] are = tt
  results_to s u [] (x ∷ results) are = absurd are
  results_to s u (entry ∷ entries) [] are = absurd are
  results_to s u (entry ∷ entries) (x ∷ results) are =
      (record { name = are.0.name; params = are.0.params; verdict = told_to s u entry x.verdict are.0.verdict }, results_to s (suc u) entries results are.1)

  pub results_from : (s : Script) (u : ℕ) (entries : List Entry) (results : List UnitResult) → AreRightResults s Declared nodes images u entries results → AreResultsFrom [] nodes images s u entries results
  results_from s u [] [] are = tt
  results_from s u [] (x ∷ results) are = absurd are
  results_from s u (entry ∷ entries) [] are = absurd are
  results_from s u (entry ∷ entries) (x ∷ results) are =
      (record { name = are.0.name; params = are.0.params; verdict = told_from s u entry x.verdict are.0.verdict }, results_from s (suc u) entries results are.1)
