-- The first of some cases that is not true.
use Rattle.std.proofs.Common.{◌≡◌, ℕ, zero, suc, ◌+◌, ◌<◌, ◌≤◌, List, [], ◌∷◌, ◌++◌, map, length, get_or, take, drop, false, refl, sym, ap, subst, ◌∙◌, inl, inr, arith}
use Rattle.std.specs.Prelude.{Option, Some, None}
use Rattle.std.proofs.Math.Seq.{drop-cons}
use Rattle.std.proofs.lemmas.List.{take_more, take-append-drop, take_all, map-append}
use Rattle.smv_core.specs.declared.flat.Class.{Class}
use Rattle.smv_core.specs.declared.flat.Case.{Case as CaseData}
use Rattle.law_obligations.specs.Sets.{Has, first, later}
use Rattle.law_obligations.proofs.Members.{Has-cases}
use Rattle.smv_bits.specs.declared.Bits.{Bits}
use Rattle.law_events.specs.Events.{Event as SearchVerdict}
use Rattle.law_events.specs.Events.Event.{Counted, Reached, Images}
use Rattle.smv_problem.specs.declared.report.Verdict.{Verdict}
use Rattle.smv_problem.specs.declared.report.Verdict.TheVariants.{True}
use Rattle.law_reports.specs.Verdicts.{is_shut, IsVerdictFor, IsTrueCase, AreTrueCases, FailsFirst}
use Rattle.law_obligations.specs.Readings.{PosedCase}
use Rattle.law_reports.specs.Told.{IsToldBy}
use Rattle.smv_decide.specs.declared.Decision.{Decision}
use Rattle.smv_decide.specs.declared.Decision.TheVariants as decided
use Rattle.smv_decide.specs.Decisions.{IsDecided}
use Rattle.smv_decide.specs.Leaves.{classes_in, verdict_at}

module _ (verdict : List Class → SearchVerdict → Type 0) where
  pub none_true : AreTrueCases verdict []
  none_true classes h = elim h [ ]

  one_true : (before : List (List Class)) (c : List Class) → AreTrueCases verdict before → IsTrueCase verdict c → AreTrueCases verdict (before ++ (c ∷ []))
  one_true before c are is classes h = elim (Has-cases before (c ∷ []) h) [ inl old ↦ are classes old | inr new ↦ only new ]
    where
      only : {d : List Class} → Has (c ∷ []) d → IsTrueCase verdict d
      only first = is
      only (later h) = elim h [ ]

  fails : (before : List (List Class)) (c : List Class) (behind cases : List (List Class)) (v : SearchVerdict) → cases ≡ before ++ (c ∷ behind) → AreTrueCases verdict before → verdict c v → is_shut v ≡ false → FailsFirst verdict cases c v
  fails before c behind cases v stands are is not = record { before = before; behind = behind; stands = stands; are_true = are; is_verdict = is; is_not = not }

some_is : {x y : Verdict} → Some x ≡ Some y → x ≡ y
some_is e = cc

pub Has_at : {X : Type 0} (xs : List X) (i : ℕ) (x : X) → i < length xs → x ≡ get_or xs i x → Has xs x
Has_at xs i x lt is = subst (Has xs) (sym is) (there xs i x lt)
  where
    there : {X : Type 0} (xs : List X) (i : ℕ) (d : X) → i < length xs → Has xs (get_or xs i d)
    there [] i d lt = absurd (omega arith)
    there (x ∷ xs) zero d lt = first
    there (x ∷ xs) (suc i) d lt = later (there xs i d (omega arith))

module _ (case_for : List Class → PosedCase) (bits : Bits) (nodes steps : ℕ) where
  abbrev told_of : List Class → SearchVerdict → Type 0
  told_of = IsVerdictFor case_for bits nodes steps

  true_at : (case : CaseData) (decision : Decision) → verdict_at case decision ≡ None → IsDecided bits nodes steps (case_for case.classes) decision → IsTrueCase told_of case.classes
  true_at case decided.True e is = is
  true_at case (decided.False elements path) e is = absurd (cc)
  true_at case (decided.UnknownNodes count) e is = absurd (cc)
  true_at case decided.UnknownSteps e is = absurd (cc)

  told_at : (case : CaseData) (decision : Decision) (verdict : Verdict) → verdict_at case decision ≡ Some verdict → IsDecided bits nodes steps (case_for case.classes) decision
      → (before behind cases : List (List Class)) → cases ≡ before ++ (case.classes ∷ behind) → AreTrueCases told_of before → IsToldBy case_for bits nodes steps cases verdict
  told_at case decided.True verdict e is before behind cases stands are = absurd (cc)
  told_at case (decided.False elements path) verdict e (k, is, shown) before behind cases stands are =
      subst (IsToldBy case_for bits nodes steps cases) (some_is e) (k, fails told_of before case.classes behind cases (Reached k) stands are is refl, shown)
  told_at case (decided.UnknownNodes count) verdict e is before behind cases stands are =
      subst (IsToldBy case_for bits nodes steps cases) (some_is e) (fails told_of before case.classes behind cases (Counted count) stands are is refl)
  told_at case decided.UnknownSteps verdict e is before behind cases stands are =
      subst (IsToldBy case_for bits nodes steps cases) (some_is e) (fails told_of before case.classes behind cases Images stands are is refl)

  -- the case at a place of the loop
  module _ (cases : List CaseData) (i : ℕ) (case : CaseData) (lt : i < length cases) (at : case ≡ get_or cases i case) (decision : Decision) (is : IsDecided bits nodes steps (case_for case.classes) decision)
      (are : AreTrueCases told_of (classes_in (take i cases))) (found : Option Verdict) (found_is : found ≡ verdict_at case decision) where
    pub next_true : found ≡ None → AreTrueCases told_of (classes_in (take (i + 1) cases))
    next_true none =
        subst (AreTrueCases told_of) (sym (ap (map (λ (c : CaseData). c.classes)) (take_more cases i case lt ∙ ap (λ (c : CaseData). take i cases ++ (c ∷ [])) (sym at)) ∙ map-append (λ (c : CaseData). c.classes) (take i cases) (case ∷ [])))
        (one_true told_of (classes_in (take i cases)) case.classes are (true_at case decision (sym found_is ∙ none) is))

    pub told_here : (verdict : Verdict) → found ≡ Some verdict → IsToldBy case_for bits nodes steps (classes_in cases) verdict
    told_here verdict ends =
        told_at case decision verdict (sym found_is ∙ ends) is (classes_in (take i cases)) (classes_in (drop (suc i) cases)) (classes_in cases)
        (ap (map (λ (c : CaseData). c.classes)) (sym (take-append-drop i cases) ∙ ap (λ (rest : List CaseData). take i cases ++ rest) (drop-cons cases i case lt ∙ ap (λ (c : CaseData). c ∷ drop (suc i) cases) (sym at)))
        ∙ map-append (λ (c : CaseData). c.classes) (take i cases) (case ∷ drop (suc i) cases))
        are

  pub told_all : (cases : List CaseData) (i : ℕ) → length cases ≤ i → AreTrueCases (IsVerdictFor case_for bits nodes steps) (classes_in (take i cases)) → IsToldBy case_for bits nodes steps (classes_in cases) True
  told_all cases i le are = subst (λ (cs : List CaseData). AreTrueCases (IsVerdictFor case_for bits nodes steps) (classes_in cs)) (take_all i cases le) are
