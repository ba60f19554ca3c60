-- A status that is that of a proved text for the command that proves by induction, or for the one that proves formulas over several times, is due to these alone.
use Rattle.std.proofs.Common.{◌≡◌, ◌∙◌, ℕ, Bool, true, false, List, sym, true≢false}
use Rattle.std.specs.Prelude.{if◌then◌else◌}
use Rattle.std.specs.List.{list_any}
use Rattle.smv_problem.specs.declared.report.Verdict.{Verdict}
use Rattle.smv_problem.specs.declared.report.Verdict.TheVariants as verdict
use Rattle.smv_problem.specs.declared.report.Report.{Report}
use Rattle.smv_command.specs.declared.commands.Command.{Command}
use Rattle.smv_command.specs.declared.commands.Command.TheVariants.{Prove, Only, Print, Generated, Proof, Check, Resume, Confirm, Induct, Ltl}
use Rattle.smv_command.specs.declared.exit.Status.{Status}
use Rattle.smv_command.specs.declared.exit.Status.TheVariants as status
use Rattle.law_judgements.specs.Judgements.{Judgement}
use Rattle.law_judgements.specs.Judgements.Judgement.{yes, form, design, set}
use Rattle.law_document_answers.specs.Dues.{IsDocumentDue, documented, open_report, refused_text, too_long_to_check, judged, refused_design, too_long_to_resume, not_old, refused_new, resumed, open_resumed, status_by}
use Rattle.law_answers.specs.Confirmations.{confirmed_status}
use Rattle.law_answers.specs.Dues.{IsDue, IsInductDue, IsLtlDue, IsReportFor, confirmed, decided, is_false, is_unknown, of_documents, of_formulas, of_induction, printed, proved_by, refused, status_of}

-- a test that the statuses fail which are due to other commands
pub record IsApart (test : Status → Bool) : Type 0 where
  pub fails_all_proved : test status.AllProved ≡ false
  pub fails_some_false : test status.SomeFalse ≡ false
  pub fails_some_unknown : test status.SomeUnknown ≡ false
  pub fails_refused : test status.Refused ≡ false
  pub fails_part_proved : test status.PartProved ≡ false
  pub fails_printed : test status.Printed ≡ false
  pub fails_generated : test status.Generated ≡ false
  pub fails_documented : test status.Documented ≡ false
  pub fails_checked : test status.Checked ≡ false
  pub fails_rejected : test status.Rejected ≡ false
  pub fails_resumed : test status.Resumed ≡ false
  pub fails_holds_here : test status.HoldsHere ≡ false
  pub fails_real : test status.Real ≡ false

-- what is due to these two commands, and nothing of the others
abbrev pub OwnDue : Command → List ℕ → Status → List ℕ → Type 0
OwnDue (Induct name var budgets) text due answer = IsInductDue status.Inducted name var budgets text due answer
OwnDue (Ltl bits budgets) text due answer = IsLtlDue status.AllFormulas bits budgets text due answer
OwnDue _ text due answer = ⊥

module _ (test : Status → Bool) (apart : IsApart test) where
  of_report : (proved : Status) (report : Report) → test proved ≡ false → test (status_of proved report) ≡ false
  of_report proved report not = by (list_any (λ u. is_false u.verdict) report.units) (list_any (λ u. is_unknown u.verdict) report.units)
    where
      by : (x y : Bool) → test (if x then status.SomeFalse else (if y then status.SomeUnknown else proved)) ≡ false
      by true y = apart.fails_some_false
      by false true = apart.fails_some_unknown
      by false false = not

  proved_not : (command : Command) (text : List ℕ) (report : Report) → IsReportFor command text report → test (proved_by command) ≡ false
  proved_not (Prove bits budgets) text report is = apart.fails_all_proved
  proved_not (Only name bits budgets) text report is = apart.fails_part_proved
  proved_not Print text report is = absurd is
  proved_not (Generated copies) text report is = apart.fails_generated
  proved_not (Proof budgets) text report is = absurd is
  proved_not Check text report is = absurd is
  proved_not (Resume budgets) text report is = absurd is
  proved_not (Confirm name sizes bits budgets) text report is = absurd is
  proved_not (Induct name var budgets) text report is = absurd is
  proved_not (Ltl bits budgets) text report is = absurd is

  judged_not : (j : Judgement) → test (status_by j) ≡ false
  judged_not (yes n) = apart.fails_checked
  judged_not form = apart.fails_rejected
  judged_not (design number at) = apart.fails_refused
  judged_not (set k) = apart.fails_rejected

  documents_not : (command : Command) (bytes : List ℕ) (due : Status) (answer : List ℕ) → IsDocumentDue command bytes due answer → test due ≡ false
  documents_not _ bytes _ _ (documented budgets proof is) = apart.fails_documented
  documents_not _ bytes _ _ (open_report budgets report right unproved) = of_report status.Documented report apart.fails_documented
  documents_not _ bytes _ _ (refused_text budgets number at fault) = apart.fails_refused
  documents_not _ bytes _ _ (too_long_to_check long) = apart.fails_refused
  documents_not _ bytes _ _ (judged j within is not) = judged_not j
  documents_not _ bytes _ _ (refused_design proof number at within spells fault) = apart.fails_refused
  documents_not _ bytes _ _ (too_long_to_resume budgets long) = apart.fails_refused
  documents_not _ bytes _ _ (not_old budgets within none) = apart.fails_rejected
  documents_not _ bytes _ _ (refused_new budgets old text proof number at within is spells fault) = apart.fails_refused
  documents_not _ bytes _ _ (resumed budgets old text proof new within is spells is_new) = apart.fails_resumed
  documents_not _ bytes _ _ (open_resumed budgets old text proof report within is spells told unproved) = of_report status.Resumed report apart.fails_resumed

  told_not : (v : Verdict) → test (confirmed_status v) ≡ false
  told_not verdict.True = apart.fails_holds_here
  told_not (verdict.False case elements path) = apart.fails_real
  told_not (verdict.UnknownNodes case count) = apart.fails_some_unknown
  told_not (verdict.UnknownSteps case) = apart.fails_some_unknown

  pub own_due : (command : Command) (text : List ℕ) (due : Status) (answer : List ℕ) → test due ≡ true → IsDue command text due answer → OwnDue command text due answer
  own_due command text _ _ e (decided report is) = absurd (true≢false (sym e ∙ of_report (proved_by command) report (proved_not command text report is)))
  own_due _ text _ _ e (printed tree is) = absurd (true≢false (sym e ∙ apart.fails_printed))
  own_due command text _ _ e (refused number at not fault) = absurd (true≢false (sym e ∙ apart.fails_refused))
  own_due command text due answer e (of_documents is) = absurd (true≢false (sym e ∙ documents_not command text due answer is))
  own_due _ text _ _ e (confirmed name sizes bits budgets tree unit v valid called is) = absurd (true≢false (sym e ∙ told_not v))
  own_due _ text due answer e (of_induction name var budgets is) = is
  own_due _ text due answer e (of_formulas bits budgets is) = is
