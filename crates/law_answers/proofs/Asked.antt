-- What it says of the runs of a text that a unit holds or is real at given sizes.
use Rattle.std.proofs.Common.{◌≡◌, ◌∙◌, ◌≤◌, ℕ, suc, Bool, true, false, List, [], ◌∷◌, Some, None, refl, sym, ap, subst, arith, true≢false}
use Rattle.std.specs.Prelude.{if◌then◌else◌}
use Rattle.std.specs.List.{list_any}
use Rattle.law_lists.proofs.Options.{some_is}
use Rattle.smv_core.specs.declared.tree.Text.{Text}
use Rattle.smv_core.specs.declared.flat.Unit.{Unit as DesignUnit}
use Rattle.smv_bits.specs.declared.Bits.{Bits}
use Rattle.smv_problem.specs.declared.report.Budgets.{Budgets}
use Rattle.smv_problem.specs.declared.report.Verdict.{Verdict}
use Rattle.smv_problem.specs.declared.report.Verdict.TheVariants as verdict
use Rattle.smv_problem.specs.declared.report.Report.{Report}
use Rattle.smv_command.specs.Ranges.{AreSizes, most_size}
use Rattle.smv_command.specs.declared.commands.Command.{Command}
use Rattle.smv_command.specs.declared.commands.Command.TheVariants.{Prove, Only, Print, Generated, Proof, Check, Resume, Confirm, Induct, Ltl}
use Rattle.smv_command.specs.declared.exit.Status.{Status}
use Rattle.smv_command.specs.declared.exit.Status.TheVariants as status
use Rattle.law_obligations.specs.Sets.{Has, first, later}
use Rattle.law_valid_texts.specs.Joined.{flat_design}
use Rattle.law_valid_texts.specs.Laws.{OneTree}
use Rattle.law_valid_texts.specs.Reports.{IsValid}
use Rattle.law_confirmed.specs.Answers.{ArePositive, ConfirmedFalseIsReal, ConfirmedTrueHolds, IsConfirmed, unit_called}
use Rattle.law_judgements.specs.Judgements.{Judgement}
use Rattle.law_judgements.specs.Judgements.Judgement.{yes, form, design, set}
use Rattle.law_document_answers.specs.Dues.{IsDocumentDue, documented, open_report, refused_text, too_long_to_check, judged, refused_design, too_long_to_resume, not_old, refused_new, resumed, open_resumed, status_by}
use Rattle.law_induct_answers.proofs.Statuses.{of_statuses}
use Rattle.law_answers.proofs.Statuses.{of_ltl_statuses}
use Rattle.law_answers.specs.Confirmations.{confirmed_lines, confirmed_status}
use Rattle.law_answers.specs.Dues.{IsDue, IsReportFor, confirmed, decided, is_false, is_unknown, of_documents, of_formulas, of_induction, printed, proved_by, refused, status_of}
use Rattle.law_answers.specs.Laws.{HoldsHereIsSo, IsRealAsAsked, RealIsSo}

-- each size of a list that is in range is so
pub each_in_range : (sizes : List ℕ) → AreSizes sizes → (k : ℕ) → Has sizes k → (1 ≤ k) × (k ≤ most_size)
each_in_range [] all k h = elim h [ ]
each_in_range (x ∷ sizes) all _ first = all 0 x (omega arith)
each_in_range (x ∷ sizes) all k (later h) = each_in_range sizes (λ i d short. all (suc i) d (omega (arith, short))) k h

positive : (sizes : List ℕ) → AreSizes sizes → ArePositive sizes
positive sizes all k h = (each_in_range sizes all k h).0

-- ---- the statuses of a unit at given sizes are due to it alone

abbrev is_asked : Status → Bool
is_asked status.HoldsHere = true
is_asked status.Real = true
is_asked _ = false

of_report : (proved : Status) (report : Report) → is_asked proved ≡ false → is_asked (status_of proved report) ≡ false
of_report proved report not = by (list_any (λ u. is_false u.verdict) report.units) (list_any (λ u. is_unknown u.verdict) report.units)
  where
    by : (x y : Bool) → is_asked (if x then status.SomeFalse else (if y then status.SomeUnknown else proved)) ≡ false
    by true y = refl
    by false true = refl
    by false false = not

proved_not : (command : Command) (text : List ℕ) (report : Report) → IsReportFor command text report → is_asked (proved_by command) ≡ false
proved_not (Prove bits budgets) text report is = refl
proved_not (Only name bits budgets) text report is = refl
proved_not Print text report is = refl
proved_not (Generated copies) text report is = refl
proved_not (Proof budgets) text report is = refl
proved_not Check text report is = refl
proved_not (Resume budgets) text report is = refl
proved_not (Confirm name sizes bits budgets) text report is = absurd is
proved_not (Induct name var budgets) text report is = absurd is
proved_not (Ltl bits budgets) text report is = absurd is

judged_not : (j : Judgement) → is_asked (status_by j) ≡ false
judged_not (yes n) = refl
judged_not form = refl
judged_not (design number at) = refl
judged_not (set k) = refl

documents_not : (command : Command) (bytes : List ℕ) (due : Status) (answer : List ℕ) → IsDocumentDue command bytes due answer → is_asked due ≡ false
documents_not _ bytes _ _ (documented budgets proof is) = refl
documents_not _ bytes _ _ (open_report budgets report right unproved) = of_report status.Documented report refl
documents_not _ bytes _ _ (refused_text budgets number at fault) = refl
documents_not _ bytes _ _ (too_long_to_check long) = refl
documents_not _ bytes _ _ (judged j within is not) = judged_not j
documents_not _ bytes _ _ (refused_design proof number at within spells fault) = refl
documents_not _ bytes _ _ (too_long_to_resume budgets long) = refl
documents_not _ bytes _ _ (not_old budgets within none) = refl
documents_not _ bytes _ _ (refused_new budgets old text proof number at within is spells fault) = refl
documents_not _ bytes _ _ (resumed budgets old text proof new within is spells is_new) = refl
documents_not _ bytes _ _ (open_resumed budgets old text proof report within is spells told unproved) = of_report status.Resumed report refl

-- what is told of the unit that a command asks to confirm, and what is written of it
record IsTold (name sizes : List ℕ) (bits : Bits) (nodes steps : ℕ) (text : List ℕ) (due : Status) (answer : List ℕ) : Type 0 where
  pub tree : Text
  pub unit : DesignUnit
  pub found : Verdict
  pub is_valid : IsValid text tree
  pub is_called : unit_called (flat_design tree) name ≡ Some unit
  pub is_confirmed : IsConfirmed text name sizes bits nodes steps found
  pub due_is : confirmed_status found ≡ due
  pub answer_is : answer ≡ confirmed_lines (flat_design tree) unit name found

abbrev Told : Command → List ℕ → Status → List ℕ → Type 0
Told (Confirm name sizes bits budgets) text due answer = IsTold name sizes bits budgets.nodes budgets.steps text due answer
Told _ text due answer = ⊥

told_of : (command : Command) (text : List ℕ) (due : Status) (answer : List ℕ) → is_asked due ≡ true → IsDue command text due answer → Told command text due answer
told_of command text _ _ asked (decided report is) = absurd (true≢false (sym asked ∙ of_report (proved_by command) report (proved_not command text report is)))
told_of _ text _ _ asked (printed tree is) = absurd (true≢false (sym asked))
told_of command text _ _ asked (refused number at other fault) = absurd (true≢false (sym asked))
told_of command text due answer asked (of_documents is) = absurd (true≢false (sym asked ∙ documents_not command text due answer is))
told_of _ text due answer asked (of_induction name var budgets is) = absurd (true≢false (sym asked ∙ of_statuses is_asked refl refl refl status.Inducted refl name var budgets text due answer is))
told_of _ text due answer asked (of_formulas bits budgets is) = absurd (true≢false (sym asked ∙ of_ltl_statuses is_asked refl refl refl status.AllFormulas refl bits budgets text due answer is))
told_of _ text _ _ asked (confirmed name sizes bits budgets tree unit v valid called is) =
    record { tree = tree; unit = unit; found = v; is_valid = valid; is_called = called; is_confirmed = is; due_is = refl; answer_is = refl }

-- ---- what it says

abbrev is_real : Status → Bool
is_real status.Real = true
is_real _ = false

abbrev is_here : Status → Bool
is_here status.HoldsHere = true
is_here _ = false

true_is : (v : Verdict) → confirmed_status v ≡ status.HoldsHere → v ≡ verdict.True
true_is verdict.True e = refl
true_is (verdict.False case elements path) e = absurd (true≢false (sym (ap is_here e)))
true_is (verdict.UnknownNodes case count) e = absurd (true≢false (sym (ap is_here e)))
true_is (verdict.UnknownSteps case) e = absurd (true≢false (sym (ap is_here e)))

pub holds_so : ConfirmedTrueHolds → HoldsHereIsSo
holds_so law None text answer within is = absurd (true≢false (ap is_here is.0))
holds_so law (Some (Confirm name sizes bits budgets)) text answer within is =
    let t = told_of (Confirm name sizes bits budgets) text status.HoldsHere answer refl is in
    let said = subst (IsConfirmed text name sizes bits budgets.nodes budgets.steps) (true_is t.found t.due_is) t.is_confirmed in
    law text name sizes (positive sizes within.0) bits budgets.nodes budgets.steps said
holds_so law (Some (Prove bits budgets)) text answer within is = told_of (Prove bits budgets) text status.HoldsHere answer refl is
holds_so law (Some (Only name bits budgets)) text answer within is = told_of (Only name bits budgets) text status.HoldsHere answer refl is
holds_so law (Some Print) text answer within is = told_of Print text status.HoldsHere answer refl is
holds_so law (Some (Generated copies)) text answer within is = told_of (Generated copies) _ status.HoldsHere answer refl is
holds_so law (Some (Proof budgets)) text answer within is = told_of (Proof budgets) text status.HoldsHere answer refl is
holds_so law (Some Check) text answer within is = told_of Check text status.HoldsHere answer refl is
holds_so law (Some (Resume budgets)) text answer within is = told_of (Resume budgets) text status.HoldsHere answer refl is
holds_so law (Some (Induct name var budgets)) text answer within is = told_of (Induct name var budgets) text status.HoldsHere answer refl is
holds_so law (Some (Ltl bits budgets)) text answer within is = told_of (Ltl bits budgets) text status.HoldsHere answer refl is

module _ (one_tree : OneTree) (law : ConfirmedFalseIsReal) where
  real_told : (name sizes : List ℕ) (bits : Bits) (nodes steps : ℕ) (text : List ℕ) (budgets : Budgets) (answer : List ℕ) → AreSizes sizes → IsTold name sizes bits nodes steps text status.Real answer → IsRealAsAsked (Some (Confirm name sizes bits budgets)) text answer
  real_told name sizes bits nodes steps text budgets answer within t = by t.found t.due_is t.is_confirmed t.answer_is
    where
      by : (v : Verdict) → confirmed_status v ≡ status.Real → IsConfirmed text name sizes bits nodes steps v → answer ≡ confirmed_lines (flat_design t.tree) t.unit name v → IsRealAsAsked (Some (Confirm name sizes bits budgets)) text answer
      by verdict.True e is written = absurd (true≢false (sym (ap is_real e)))
      by (verdict.UnknownNodes case count) e is written = absurd (true≢false (sym (ap is_real e)))
      by (verdict.UnknownSteps case) e is written = absurd (true≢false (sym (ap is_real e)))
      by (verdict.False case elements path) e is written =
          let (tree, valid, real) = law text name sizes (positive sizes within) bits nodes steps case elements path is in
          let trees : t.tree ≡ tree = one_tree text t.tree tree t.is_valid.is_tree valid.is_tree in
          let units : t.unit ≡ real.unit = some_is (sym t.is_called ∙ (ap (λ (x : Text). unit_called (flat_design x) name) trees ∙ real.is_called)) in
          (tree, case, elements, path, real, valid, written ∙ (λ i. confirmed_lines (flat_design (trees i)) (units i) name (verdict.False case elements path)))

  pub real_so : RealIsSo
  real_so None text answer within is = absurd (true≢false (ap is_real is.0))
  real_so (Some (Confirm name sizes bits budgets)) text answer within is =
      real_told name sizes bits budgets.nodes budgets.steps text budgets answer within.0 (told_of (Confirm name sizes bits budgets) text status.Real answer refl is)
  real_so (Some (Prove bits budgets)) text answer within is = told_of (Prove bits budgets) text status.Real answer refl is
  real_so (Some (Only name bits budgets)) text answer within is = told_of (Only name bits budgets) text status.Real answer refl is
  real_so (Some Print) text answer within is = told_of Print text status.Real answer refl is
  real_so (Some (Generated copies)) text answer within is = told_of (Generated copies) _ status.Real answer refl is
  real_so (Some (Proof budgets)) text answer within is = told_of (Proof budgets) text status.Real answer refl is
  real_so (Some Check) text answer within is = told_of Check text status.Real answer refl is
  real_so (Some (Resume budgets)) text answer within is = told_of (Resume budgets) text status.Real answer refl is
  real_so (Some (Induct name var budgets)) text answer within is = told_of (Induct name var budgets) text status.Real answer refl is
  real_so (Some (Ltl bits budgets)) text answer within is = told_of (Ltl bits budgets) text status.Real answer refl is
