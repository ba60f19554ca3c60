-- What is due of documents is due to a command on documents alone.
use Rattle.std.proofs.Common.{◌≡◌, ◌∙◌, ℕ, Bool, true, false, List, Option, Some, None, refl, sym, ap, subst, true≢false}
use Rattle.std.specs.Prelude.{if◌then◌else◌}
use Rattle.std.specs.List.{list_any}
use Rattle.smv_problem.specs.declared.report.Verdict.{Verdict}
use Rattle.smv_problem.specs.declared.report.Verdict.TheVariants as verdict
use Rattle.smv_problem.specs.declared.report.Report.{Report}
use Rattle.smv_command.specs.declared.commands.Command.{Command}
use Rattle.smv_command.specs.declared.commands.Command.TheVariants.{Prove, Only, Print, Generated, Proof, Check, Resume, Confirm, Induct, Ltl}
use Rattle.smv_command.specs.declared.exit.Status.{Status}
use Rattle.smv_command.specs.declared.exit.Status.TheVariants as status
use Rattle.law_induct_answers.proofs.Statuses.{of_statuses}
use Rattle.law_answers.proofs.Statuses.{of_ltl_statuses}
use Rattle.law_answers.specs.Confirmations.{confirmed_status}
use Rattle.law_answers.specs.Dues.{IsDocumentDue, IsDue, IsDueTo, IsReportFor, confirmed, decided, is_false, is_unknown, of_documents, of_formulas, of_induction, printed, proved_by, refused, status_of, text_for}

-- a status of documents
abbrev is_own : Status → Bool
is_own status.Documented = true
is_own status.Checked = true
is_own status.Resumed = true
is_own _ = false

own_not : (command : Command) (text : List ℕ) (report : Report) → IsReportFor command text report → is_own (proved_by command) ≡ false
own_not (Prove bits budgets) text report is = refl
own_not (Only name bits budgets) text report is = refl
own_not Print text report is = refl
own_not (Generated copies) text report is = refl
own_not (Proof budgets) text report is = absurd is
own_not Check text report is = absurd is
own_not (Resume budgets) text report is = absurd is
own_not (Confirm name sizes bits budgets) text report is = absurd is
own_not (Induct name var budgets) text report is = absurd is
own_not (Ltl bits budgets) text report is = absurd is

of_report : (command : Command) (text : List ℕ) (report : Report) → IsReportFor command text report → is_own (status_of (proved_by command) report) ≡ false
of_report command text report is = by (list_any (λ u. is_false u.verdict) report.units) (list_any (λ u. is_unknown u.verdict) report.units)
  where
    by : (x y : Bool) → is_own (if x then status.SomeFalse else (if y then status.SomeUnknown else proved_by command)) ≡ false
    by true y = refl
    by false true = refl
    by false false = own_not command text report is

own_none : (v : Verdict) → is_own (confirmed_status v) ≡ false
own_none verdict.True = refl
own_none (verdict.False case elements path) = refl
own_none (verdict.UnknownNodes case count) = refl
own_none (verdict.UnknownSteps case) = refl

found : (command : Command) (text : List ℕ) (due : Status) (answer : List ℕ) → is_own due ≡ true → IsDue command text due answer → IsDocumentDue command text due answer
found command text _ _ own (decided report is) = absurd (true≢false (sym own ∙ of_report command text report is))
found _ text _ _ own (printed tree is) = absurd (true≢false (sym own))
found command text _ _ own (refused number at other fault) = absurd (true≢false (sym own))
found command text due answer own (of_documents is) = is
found _ text due answer own (of_induction name var budgets is) = absurd (true≢false (sym own ∙ of_statuses is_own refl refl refl status.Inducted refl name var budgets text due answer is))
found _ text due answer own (of_formulas bits budgets is) = absurd (true≢false (sym own ∙ of_ltl_statuses is_own refl refl refl status.AllFormulas refl bits budgets text due answer is))
found _ text _ _ own (confirmed name sizes bits budgets tree unit v valid called is) = absurd (true≢false (sym own ∙ own_none v))

-- the text of a command on documents is the one that was read
its_text : (command : Command) (text asked answer : List ℕ) (due : Status) → text_for command text ≡ asked → IsDocumentDue command asked due answer → asked ≡ text
its_text (Proof budgets) text asked answer due e is = sym e
its_text Check text asked answer due e is = sym e
its_text (Resume budgets) text asked answer due e is = sym e
its_text (Prove bits budgets) text asked answer due e is = elim is [ ]
its_text (Only name bits budgets) text asked answer due e is = elim is [ ]
its_text Print text asked answer due e is = elim is [ ]
its_text (Generated copies) text asked answer due e is = elim is [ ]
its_text (Confirm name sizes bits budgets) text asked answer due e is = elim is [ ]
its_text (Induct name var budgets) text asked answer due e is = elim is [ ]
its_text (Ltl bits budgets) text asked answer due e is = elim is [ ]

-- what holds of the bytes of each such answer holds of what was read
pub of_read : (P : List ℕ → Type 0) (due : Status) → is_own due ≡ true → ((command : Command) (text answer : List ℕ) → IsDocumentDue command text due answer → P text) →
    (command : Option Command) (text answer : List ℕ) → IsDueTo command text due answer → P text
of_read P due own law None text answer is = absurd (true≢false (sym own ∙ ap is_own is.0))
of_read P due own law (Some command) text answer is =
    let there = found command (text_for command text) due answer own is in
    subst P (its_text command text (text_for command text) answer due refl there) (law command (text_for command text) answer there)
