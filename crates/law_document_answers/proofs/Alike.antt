-- Two reports of what is resumed tell the same, and where no unit is false they are one.
use Rattle.std.proofs.Common.{◌≡◌, ◌∙◌, inl, inr, ℕ, suc, ◌-◌, false, List, [], ◌∷◌, ◌++◌, length, refl, sym, ap, ap₂, subst, arith, true≢false}
use Rattle.std.specs.List.{list_any}
use Rattle.std.proofs.lemmas.Bool.{or_parts}
use Rattle.std.proofs.lemmas.List.{length-map}
use Rattle.law_lists.proofs.Lists.{head_is, tail_is}
use Rattle.smv_core.specs.declared.flat.Class.{Class}
use Rattle.smv_core.specs.declared.tree.Text.{Text}
use Rattle.law_obligations.specs.Sets.{Has, first, later}
use Rattle.law_obligations.specs.Outlines.{Entry, Script}
use Rattle.law_events.specs.Events.{Event, IsFirstEvent}
use Rattle.law_events.specs.Events.Event.{Reached, Shut}
use Rattle.law_events.specs.Laws.{OneVerdict}
use Rattle.smv_problem.specs.declared.problem.AbsState.{AbsState as StateData}
use Rattle.smv_problem.specs.declared.report.Verdict.{Verdict as Told}
use Rattle.smv_problem.specs.declared.report.Verdict.TheVariants.{True, False, UnknownNodes, UnknownSteps}
use Rattle.smv_problem.specs.declared.report.UnitResult.{UnitResult}
use Rattle.smv_problem.specs.declared.report.Report.{Report}
use Rattle.smv_problem.specs.Written.{written_state}
use Rattle.law_reports.specs.CaseLists.{case_lists}
use Rattle.law_reports.specs.Verdicts.{LeafVerdict, all_true, fails, is_shut}
use Rattle.law_reports.specs.Reports.{told, told_of}
use Rattle.law_valid_texts.specs.Reports.{script_of_tree}
use Rattle.law_valid_texts.specs.Laws.{OneTree}
use Rattle.smv_proof.specs.declared.proof.KeptSet.{KeptSet}
use Rattle.law_checked_proofs.specs.Cases.{UnitCase, cases_at}
use Rattle.law_checked_proofs.specs.Resumed.{Stands, IsTrue, AreTrue, FailsFirst, IsToldBy, IsResultOf, AreResultsFrom, IsResumedReport}
use Rattle.law_document_answers.specs.Statuses.{is_false}
use Rattle.law_document_answers.proofs.Verdicts.{verdict_is}

module _ (one_verdict : OneVerdict) (old : List KeptSet) (nodes images : ℕ) where
  -- ---- cases

  -- something else than that it is true is found of a case
  record Fails (c : UnitCase) (v : Event) : Type 0 where
    found : IsFirstEvent (case_lists c.case) nodes images v
    not_shut : is_shut v ≡ false
    is_new : Stands old nodes images c → ⊥

  clash : (c : UnitCase) (v : Event) → IsTrue old nodes images c → Fails c v → ⊥
  clash c v (inl stands) fail = fail.is_new stands
  clash c v (inr (k, shut)) fail = true≢false (ap is_shut (one_verdict (case_lists c.case) nodes images (Shut k) v shut fail.found) ∙ fail.not_shut)

  in_middle : (before behind : List UnitCase) (c : UnitCase) → Has (before ++ (c ∷ behind)) c
  in_middle [] behind c = first
  in_middle (x ∷ before) behind c = later (in_middle before behind c)

  fails_of : (cases : List UnitCase) (c : UnitCase) (v : Event) → FailsFirst old nodes images cases c v → Fails c v
  fails_of cases c v fail = record { found = fail.is_verdict; not_shut = fail.is_not; is_new = fail.is_new }

  not_all : (cases : List UnitCase) (c : UnitCase) (v : Event) → AreTrue old nodes images cases → FailsFirst old nodes images cases c v → ⊥
  not_all cases c v all fail = clash c v (all c (subst (λ (cs : List UnitCase). Has cs c) (sym fail.stands) (in_middle fail.before fail.behind c))) (fails_of cases c v fail)

  -- the first that is not true is one case, and one thing is found of it
  same_first : (before others : List UnitCase) (c d : UnitCase) (behind more : List UnitCase) (v w : Event) → before ++ (c ∷ behind) ≡ others ++ (d ∷ more) →
      AreTrue old nodes images before → AreTrue old nodes images others → Fails c v → Fails d w → fails c.classes v ≡ fails d.classes w
  same_first [] [] c d behind more v w e tb to fv fw =
      let same : c ≡ d = head_is e in
      let verdict : v ≡ w = one_verdict (case_lists d.case) nodes images v w (subst (λ (x : UnitCase). IsFirstEvent (case_lists x.case) nodes images v) same fv.found) fw.found in
      ap (λ (x : UnitCase). fails x.classes v) same ∙ ap (fails d.classes) verdict
  same_first [] (x ∷ others) c d behind more v w e tb to fv fw = absurd (clash c v (subst (IsTrue old nodes images) (sym (head_is e)) (to x first)) fv)
  same_first (x ∷ before) [] c d behind more v w e tb to fv fw = absurd (clash d w (subst (IsTrue old nodes images) (head_is e) (tb x first)) fw)
  same_first (x ∷ before) (y ∷ others) c d behind more v w e tb to fv fw =
      same_first before others c d behind more v w (tail_is e) (λ z h. tb z (later h)) (λ z h. to z (later h)) fv fw

  -- what a verdict tells, by the cases: all are true, or one fails first
  abbrev Tells : List UnitCase → LeafVerdict → Type 0
  Tells cases all_true = AreTrue old nodes images cases
  Tells cases (fails classes v) = (c : UnitCase) × (c.classes ≡ classes) × FailsFirst old nodes images cases c v

  one_told : (cases : List UnitCase) (v w : LeafVerdict) → Tells cases v → Tells cases w → v ≡ w
  one_told cases all_true all_true a b = refl
  one_told cases all_true (fails classes w) a (c, e, fail) = absurd (not_all cases c w a fail)
  one_told cases (fails classes v) all_true (c, e, fail) b = absurd (not_all cases c v b fail)
  one_told cases (fails classes v) (fails other w) (c, e, fail) (d, f, fail_too) =
      ap (λ (x : List Class). fails x v) (sym e)
      ∙ (same_first fail.before fail_too.before c d fail.behind fail_too.behind v w (sym fail.stands ∙ fail_too.stands) fail.are_true fail_too.are_true (fails_of cases c v fail) (fails_of cases d w fail_too)
      ∙ ap (λ (x : List Class). fails x w) f)

  tells : (cases : List UnitCase) (v : Told) → IsToldBy old nodes images cases v → Tells cases (told v)
  tells cases True is = is
  tells cases (False case elements path) (c, e, (k, fail, shown)) =
      let long = shown.is_shortest.is_so_long in
      let written = ap (λ (xs : List StateData). length xs) shown.path_is ∙ length-map shown.states (written_state c.case) in
      let same : k ≡ length path - 1 = omega arith in
      subst (λ (n : ℕ). Tells cases (fails case.classes (Reached n))) same (c, e, fail)
  tells cases (UnknownNodes case count) (c, e, fail) = (c, e, fail)
  tells cases (UnknownSteps case) (c, e, fail) = (c, e, fail)

  -- ---- units

  module _ (s : Script) where
    alike : (u : ℕ) (entries : List Entry) (rs qs : List UnitResult) → AreResultsFrom old nodes images s u entries rs → AreResultsFrom old nodes images s u entries qs → told_of rs ≡ told_of qs
    alike u [] [] [] is is_too = refl
    alike u [] [] (q ∷ qs) is is_too = absurd is_too
    alike u [] (r ∷ rs) qs is is_too = absurd is
    alike u (entry ∷ entries) [] qs is is_too = absurd is
    alike u (entry ∷ entries) (r ∷ rs) [] is is_too = absurd is_too
    alike u (entry ∷ entries) (r ∷ rs) (q ∷ qs) is is_too =
        let cases = cases_at s u entry in
        ap₂ (λ (x : LeafVerdict) (xs : List LeafVerdict). x ∷ xs) (one_told cases (told r.verdict) (told q.verdict) (tells cases r.verdict is.0.verdict) (tells cases q.verdict is_too.0.verdict))
        (alike (suc u) entries rs qs is.1 is_too.1)

    same_result : (u : ℕ) (entry : Entry) (r q : UnitResult) → IsResultOf old nodes images s u entry r → IsResultOf old nodes images s u entry q → told r.verdict ≡ told q.verdict → is_false r.verdict ≡ false → r ≡ q
    same_result u entry r q is is_too tell f =
        let names : r.name ≡ q.name = is.name ∙ sym is_too.name in
        let params : r.params ≡ q.params = is.params ∙ sym is_too.params in
        let verdicts = verdict_is r.verdict q.verdict tell f in
        λ i. record { name = names i; params = params i; verdict = verdicts i }

    same_results : (u : ℕ) (entries : List Entry) (rs qs : List UnitResult) → AreResultsFrom old nodes images s u entries rs → AreResultsFrom old nodes images s u entries qs → told_of rs ≡ told_of qs →
        list_any (λ r. is_false r.verdict) rs ≡ false → rs ≡ qs
    same_results u [] [] [] is is_too tell f = refl
    same_results u [] [] (q ∷ qs) is is_too tell f = absurd is_too
    same_results u [] (r ∷ rs) qs is is_too tell f = absurd is
    same_results u (entry ∷ entries) [] qs is is_too tell f = absurd is
    same_results u (entry ∷ entries) (r ∷ rs) [] is is_too tell f = absurd is_too
    same_results u (entry ∷ entries) (r ∷ rs) (q ∷ qs) is is_too tell f =
        let none = or_parts (is_false r.verdict) (list_any (λ r. is_false r.verdict) rs) f in
        ap₂ (λ (x : UnitResult) (xs : List UnitResult). x ∷ xs) (same_result u entry r q is.0 is_too.0 (head_is tell) none.0)
        (same_results (suc u) entries rs qs is.1 is_too.1 (tail_is tell) none.1)

  -- ---- reports

  module _ (one_tree : OneTree) where
    units_of : (text : List ℕ) (report other : Report) (is : IsResumedReport old nodes images text report) (is_too : IsResumedReport old nodes images text other) →
        AreResultsFrom old nodes images (script_of_tree is_too.tree) 0 (script_of_tree is_too.tree).entries report.units
    units_of text report other is is_too =
        subst (λ (t : Text). AreResultsFrom old nodes images (script_of_tree t) 0 (script_of_tree t).entries report.units) (one_tree text is.tree is_too.tree is.is_valid.is_tree is_too.is_valid.is_tree) is.units

    pub reports_alike : (text : List ℕ) (report other : Report) → IsResumedReport old nodes images text report → IsResumedReport old nodes images text other → told_of report.units ≡ told_of other.units
    reports_alike text report other is is_too =
        let s = script_of_tree is_too.tree in
        alike s 0 s.entries report.units other.units (units_of text report other is is_too) is_too.units

    pub same_report : (text : List ℕ) (report other : Report) → IsResumedReport old nodes images text report → IsResumedReport old nodes images text other →
        list_any (λ r. is_false r.verdict) report.units ≡ false → report ≡ other
    same_report text report other is is_too f =
        let s = script_of_tree is_too.tree in
        let trees = one_tree text is.tree is_too.tree is.is_valid.is_tree is_too.is_valid.is_tree in
        let designs : report.design ≡ other.design = is.design ∙ (ap (λ (t : Text). (script_of_tree t).design) trees ∙ sym is_too.design) in
        let units = same_results s 0 s.entries report.units other.units (units_of text report other is is_too) is_too.units (reports_alike text report other is is_too) f in
        λ i. record { design = designs i; units = units i }
