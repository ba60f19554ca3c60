-- What a call owes to the prover by induction.
use Rattle.std.specs.Prelude.{ℕ, List}
use Rattle.smv_core.specs.Values.{Name}
use Rattle.smv_core.specs.declared.tree.Text.{Text}
use Rattle.smv_bits.specs.declared.Bits.TheVariants.{Declared}
use Rattle.smv_problem.specs.declared.report.Report.{Report}
use Rattle.smv_problem.specs.declared.report.Budgets.{Budgets}
use Rattle.smv_report.specs.Lines.{fault_text}
use Rattle.smv_command.specs.declared.exit.Status.{Status}
use Rattle.smv_command.specs.declared.exit.Status.TheVariants as status
use Rattle.law_reports.specs.Lines.{report_lines}
use Rattle.law_valid_texts.specs.Reports.{IsValid, IsRightReport}
use Rattle.law_judgements.specs.Judgements.{IsFaultOf}
use Rattle.law_document_answers.specs.Statuses.{status_of}
use Rattle.law_strengthened_texts.specs.Stronger.{Stronger, back, IsStrengthened, HasNoInduction}

-- The status and the whole answer to an induction on a claim and one of its parameters, over the declared bits; the status of a proved text is given. The text that is read is valid, or its first fault is told; then no induction of it is this
-- one, which is fault 36; then the strengthened text is valid, or its first fault is told, at the place in the text that was read.
pub data IsInductDue : Status → Name → Name → Budgets → List ℕ → Status → List ℕ → Type 0 where
  inducted : {text : List ℕ} (proved : Status) (name var : Name) (budgets : Budgets) (tree : Text) (s : Stronger) (report : Report) → IsValid text tree → IsStrengthened text name var s →
      IsRightReport s.text Declared budgets.nodes budgets.steps report → IsInductDue proved name var budgets text (status_of proved report) (report_lines report)
  refused_text : {text : List ℕ} (proved : Status) (name var : Name) (budgets : Budgets) (number at : ℕ) → IsFaultOf text number at → IsInductDue proved name var budgets text status.Refused (fault_text text number at)
  no_induction : {text : List ℕ} (proved : Status) (name var : Name) (budgets : Budgets) (tree : Text) → IsValid text tree → HasNoInduction text name var →
      IsInductDue proved name var budgets text status.Refused (fault_text text 36 0)
  refused_stronger : {text : List ℕ} (proved : Status) (name var : Name) (budgets : Budgets) (tree : Text) (s : Stronger) (number at : ℕ) → IsValid text tree → IsStrengthened text name var s → IsFaultOf s.text number at →
      IsInductDue proved name var budgets text status.Refused (fault_text text number (back s at))
