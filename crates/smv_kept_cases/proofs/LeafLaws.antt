-- The cases of a leaf, one behind another.
use Rattle.std.proofs.Common.{◌≡◌, ◌∙◌, inl, inr, ℕ, suc, ◌+◌, ◌<◌, ◌≤◌, List, [], ◌∷◌, ◌++◌, map, length, take, drop, get_or, Bool, true, false, ◌&&◌, if◌then◌else◌, Option, Some, None, refl, sym, ap, subst, arith}
use Rattle.std.specs.List.{list_all}
use Rattle.std.proofs.Math.Seq.{drop-cons}
use Rattle.std.proofs.lemmas.List.{take_more, take-append-drop, take_all, map-append, length-map, length-take-le}
use Rattle.law_lists.proofs.Booleans.{left_of, right_of}
use Rattle.smv_core.specs.declared.flat.Class.{Class}
use Rattle.smv_core.specs.declared.flat.Case.{Case as CaseData}
use Rattle.law_obligations.specs.Sets.{Has, first, later}
use Rattle.law_obligations.specs.Readings.{PosedCase}
use Rattle.law_events.specs.Events.{Event, IsFirstEvent}
use Rattle.law_events.specs.Events.Event.{Counted, Reached, Images}
use Rattle.smv_problem.specs.declared.report.Verdict.{Verdict}
use Rattle.smv_problem.specs.declared.report.Verdict.TheVariants.{True, False, UnknownNodes, UnknownSteps}
use Rattle.law_reports.specs.CaseLists.{case_lists}
use Rattle.law_reports.specs.Verdicts.{is_shut}
use Rattle.smv_decide.specs.Leaves.{classes_in}
use Rattle.smv_proof.specs.declared.proof.KeptSet.{KeptSet}
use Rattle.smv_proof.specs.Documents.{is_set}
use Rattle.law_checked_proofs.specs.Cases.{UnitCase, cases_from}
use Rattle.law_checked_proofs.specs.Checked.{is_for}
use Rattle.law_checked_proofs.specs.Resumed.{old_set, Stands, IsTrue, AreTrue, FailsFirst, IsToldBy, IsSetOf, AreSetsOf}
use Rattle.smv_kept_cases.specs.declared.cases.Tried.{Tried}
use Rattle.smv_kept_cases.specs.declared.cases.Tried.TheVariants as tried
use Rattle.smv_kept_cases.specs.Tried.{IsOpen, IsTried, IsLeafTried}

-- the old set of a case is one of the sets
pub old_is_set : (sets : List KeptSet) → list_all is_set sets ≡ true → (c : UnitCase) (set : KeptSet) → old_set c sets ≡ Some set → is_set set ≡ true
old_is_set [] are c set e = absurd (cc (e))
old_is_set (x ∷ sets) are c set e = by (is_for c x) (old_is_set sets (right_of (is_set x) (list_all is_set sets) are) c set) e
  where
    some_is : {a b : KeptSet} → Some a ≡ Some b → a ≡ b
    some_is f = cc

    by : (b : Bool) → (old_set c sets ≡ Some set → is_set set ≡ true) → (if b then Some x else old_set c sets) ≡ Some set → is_set set ≡ true
    by true goes f = subst (λ (y : KeptSet). is_set y ≡ true) (some_is f) (left_of (is_set x) (list_all is_set sets) are)
    by false goes f = goes f

-- ---- cases

cases_append : (unit : List ℕ) (case_for : List Class → PosedCase) (k : ℕ) (xs ys : List (List Class)) → cases_from unit case_for k (xs ++ ys) ≡ cases_from unit case_for k xs ++ cases_from unit case_for (k + length xs) ys
cases_append unit case_for k [] ys = let same : k ≡ k + 0 = omega arith in ap (λ (n : ℕ). cases_from unit case_for n ys) same
cases_append unit case_for k (x ∷ xs) ys =
    let same : suc k + length xs ≡ k + suc (length xs) = omega arith in
    let c : UnitCase = record { unit = unit; number = k; classes = x; case = case_for x } in
    ap (λ (cs : List UnitCase). c ∷ cs) (cases_append unit case_for (suc k) xs ys ∙ ap (λ (n : ℕ). cases_from unit case_for (suc k) xs ++ cases_from unit case_for n ys) same)

-- the case at a place of a leaf
module _ (unit : List ℕ) (case_for : List Class → PosedCase) (cases : List CaseData) (k : ℕ) (case : CaseData) (lt : k < length cases) (at : case ≡ get_or cases k case) where
  abbrev here : UnitCase
  here = record { unit = unit; number = k; classes = case.classes; case = case_for case.classes }

  abbrev so_far : List UnitCase
  so_far = cases_from unit case_for 0 (classes_in (take k cases))

  long : 0 + length (classes_in (take k cases)) ≡ k
  long =
      let mapped = length-map (take k cases) (λ (c : CaseData). c.classes) in
      let taken = length-take-le k cases (omega (arith, lt)) in
      omega (arith, mapped, taken)

  behind_so_far : (rest : List (List Class)) → cases_from unit case_for 0 (classes_in (take k cases) ++ (case.classes ∷ rest)) ≡ so_far ++ (here ∷ cases_from unit case_for (suc k) rest)
  behind_so_far rest =
      cases_append unit case_for 0 (classes_in (take k cases)) (case.classes ∷ rest)
      ∙ ap (λ (n : ℕ). so_far ++ cases_from unit case_for n (case.classes ∷ rest)) long

  pub one_more : cases_from unit case_for 0 (classes_in (take (k + 1) cases)) ≡ so_far ++ (here ∷ [])
  one_more =
      ap (λ (cs : List CaseData). cases_from unit case_for 0 (classes_in cs)) (take_more cases k case lt ∙ ap (λ (c : CaseData). take k cases ++ (c ∷ [])) (sym at))
      ∙ (ap (cases_from unit case_for 0) (map-append (λ (c : CaseData). c.classes) (take k cases) (case ∷ [])) ∙ behind_so_far [])

  pub cut_here : cases_from unit case_for 0 (classes_in cases) ≡ so_far ++ (here ∷ cases_from unit case_for (suc k) (classes_in (drop (suc k) cases)))
  cut_here =
      ap (λ (cs : List CaseData). cases_from unit case_for 0 (classes_in cs)) (sym (take-append-drop k cases) ∙ ap (λ (rest : List CaseData). take k cases ++ rest) (drop-cons cases k case lt ∙ ap (λ (c : CaseData). c ∷ drop (suc k) cases) (sym at)))
      ∙ (ap (cases_from unit case_for 0) (map-append (λ (c : CaseData). c.classes) (take k cases) (case ∷ drop (suc k) cases)) ∙ behind_so_far (classes_in (drop (suc k) cases)))

-- no case yet
pub no_cases : (old : List KeptSet) (nodes images : ℕ) (unit : List ℕ) (case_for : List Class → PosedCase) (cases : List CaseData) (sets : List KeptSet) → sets ≡ [] → AreSetsOf old nodes images (cases_from unit case_for 0 (classes_in (take 0 cases))) sets
no_cases old nodes images unit case_for [] [] e = tt
no_cases old nodes images unit case_for (x ∷ cases) [] e = tt
no_cases old nodes images unit case_for cases (x ∷ sets) e = absurd (cc (e))

-- ---- sets

module _ (old : List KeptSet) (nodes images : ℕ) where
  pub sets_append : (cases others : List UnitCase) (sets more : List KeptSet) → AreSetsOf old nodes images cases sets → AreSetsOf old nodes images others more → AreSetsOf old nodes images (cases ++ others) (sets ++ more)
  sets_append [] others [] more are is = is
  sets_append [] others (x ∷ sets) more are is = absurd are
  sets_append (c ∷ cases) others [] more are is = absurd are
  sets_append (c ∷ cases) others (x ∷ sets) more are is = (are.0, sets_append cases others sets more are.1 is)

  are_true : (cases : List UnitCase) (sets : List KeptSet) → AreSetsOf old nodes images cases sets → AreTrue old nodes images cases
  are_true [] sets are c h = elim h [ ]
  are_true (x ∷ cases) [] are c h = absurd are
  are_true (x ∷ cases) (set ∷ sets) are _ first = elim are.0 [ inl stands ↦ inl (set, stands.0, stands.1) | inr new ↦ inr (new.1.rings, new.1.is_shut) ]
  are_true (x ∷ cases) (set ∷ sets) are c (later h) = are_true cases sets are.1 c h

  -- a case is true by a set
  tried_set : (o : Option KeptSet) (c : UnitCase) (done : Tried) (set : KeptSet) → o ≡ old_set c old → done ≡ tried.True set → IsTried nodes images o c done → IsSetOf old nodes images c set
  tried_set o c done set is_old is all =
      subst (λ (p : Option KeptSet). IsTried nodes images p c (tried.True set)) is_old (subst (IsTried nodes images o c) is all)

  pub leaf_more : (so_far more : List UnitCase) (sets pushed : List KeptSet) (o : Option KeptSet) (c : UnitCase) (done : Tried) (set : KeptSet) → more ≡ so_far ++ (c ∷ []) → pushed ≡ sets ++ (set ∷ []) → o ≡ old_set c old
      → done ≡ tried.True set → IsTried nodes images o c done → AreSetsOf old nodes images so_far sets → AreSetsOf old nodes images more pushed
  leaf_more so_far more sets pushed o c done set stands put is_old is all are =
      subst (λ (cs : List UnitCase). AreSetsOf old nodes images cs pushed) (sym stands)
      (subst (λ (ss : List KeptSet). AreSetsOf old nodes images (so_far ++ (c ∷ [])) ss) (sym put)
      (sets_append so_far (c ∷ []) sets (set ∷ []) are (tried_set o c done set is_old is all, tt)))

  fails : (cases before behind : List UnitCase) (c : UnitCase) (v : Event) → cases ≡ before ++ (c ∷ behind) → AreTrue old nodes images before → IsFirstEvent (case_lists c.case) nodes images v → is_shut v ≡ false → (Stands old nodes images c → ⊥)
      → FailsFirst old nodes images cases c v
  fails cases before behind c v stands are is not new = record { before = before; behind = behind; stands = stands; are_true = are; is_verdict = is; is_not = not; is_new = new }

  told_open : (cases before behind : List UnitCase) (c : UnitCase) (verdict : Verdict) → cases ≡ before ++ (c ∷ behind) → AreTrue old nodes images before → (Stands old nodes images c → ⊥) → IsOpen nodes images c verdict → IsToldBy old nodes images cases verdict
  told_open cases before behind c True stands are new is_open = absurd is_open
  told_open cases before behind c (False case elements path) stands are new (e, (k, is, shown)) = (c, e, (k, fails cases before behind c (Reached k) stands are is refl new, shown))
  told_open cases before behind c (UnknownNodes case count) stands are new (e, is) = (c, e, fails cases before behind c (Counted count) stands are is refl new)
  told_open cases before behind c (UnknownSteps case) stands are new (e, is) = (c, e, fails cases before behind c Images stands are is refl new)

  open_is_not : (c : UnitCase) (verdict : Verdict) → IsOpen nodes images c verdict → verdict ≡ True → ⊥
  open_is_not c True is_open e = is_open
  open_is_not c (False case elements path) is_open e = absurd (cc (e))
  open_is_not c (UnknownNodes case count) is_open e = absurd (cc (e))
  open_is_not c (UnknownSteps case) is_open e = absurd (cc (e))

  pub leaf_open : (cases so_far behind : List UnitCase) (sets : List KeptSet) (o : Option KeptSet) (c : UnitCase) (done : Tried) (verdict : Verdict) → cases ≡ so_far ++ (c ∷ behind) → o ≡ old_set c old → done ≡ tried.Open verdict
      → IsTried nodes images o c done → AreSetsOf old nodes images so_far sets → IsLeafTried old nodes images cases verdict sets
  leaf_open cases so_far behind sets o c done verdict stands is_old is all are =
      let shown = subst (λ (p : Option KeptSet). IsTried nodes images p c (tried.Open verdict)) is_old (subst (IsTried nodes images o c) is all) in
      record {
        told = told_open cases so_far behind c verdict stands (are_true so_far sets are) shown.0 shown.1;
        kept = λ e. absurd (open_is_not c verdict shown.1 e);
      }

  pub leaf_all : (unit : List ℕ) (case_for : List Class → PosedCase) (cases : List CaseData) (k : ℕ) (sets : List KeptSet) → length cases ≤ k → AreSetsOf old nodes images (cases_from unit case_for 0 (classes_in (take k cases))) sets
      → IsLeafTried old nodes images (cases_from unit case_for 0 (classes_in cases)) True sets
  leaf_all unit case_for cases k sets le are =
      let all = subst (λ (cs : List CaseData). AreSetsOf old nodes images (cases_from unit case_for 0 (classes_in cs)) sets) (take_all k cases le) are in
      record { told = are_true (cases_from unit case_for 0 (classes_in cases)) sets all; kept = λ e. all }
