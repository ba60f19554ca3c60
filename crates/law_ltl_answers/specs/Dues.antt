-- What a call owes to the command `ltl`.
use Rattle.std.specs.Prelude.{ℕ, List}
use Rattle.smv_bits.specs.declared.Bits.{Bits}
use Rattle.smv_problem.specs.declared.report.Report.{Report}
use Rattle.smv_problem.specs.declared.report.Budgets.{Budgets}
use Rattle.smv_report.specs.Lines.{fault_text}
use Rattle.smv_command.specs.declared.exit.Status.{Status}
use Rattle.smv_command.specs.declared.exit.Status.TheVariants as status
use Rattle.law_reports.specs.Lines.{report_lines}
use Rattle.law_valid_texts.specs.Reports.{IsRightReport}
use Rattle.law_judgements.specs.Judgements.{IsFaultOf}
use Rattle.law_document_answers.specs.Statuses.{status_of}
use Rattle.law_translated_texts.specs.Translation.{Translation, back}
use Rattle.law_translated_texts.specs.Answers.{IsTranslated, IsRefused}

-- The status and the whole answer to a text whose claims are formulas, over bits that stand so and under budgets; the status of a text of which each unit is true is given. Faults are told with their places in the text that was read.
pub data IsLtlDue : Status → Bits → Budgets → List ℕ → Status → List ℕ → Type 0 where
  -- the report of the translated text, where it is valid
  translated : {text : List ℕ} (proved : Status) (bits : Bits) (budgets : Budgets) (t : Translation) (report : Report) → IsTranslated text t → IsRightReport t.text bits budgets.nodes budgets.steps report →
      IsLtlDue proved bits budgets text (status_of proved report) (report_lines report)
  -- why the text is not translated
  refused_text : {text : List ℕ} (proved : Status) (bits : Bits) (budgets : Budgets) (number at : ℕ) → IsRefused text number at → IsLtlDue proved bits budgets text status.Refused (fault_text text number at)
  -- the first fault of the translated text, at the place to which it belongs
  refused_translation : {text : List ℕ} (proved : Status) (bits : Bits) (budgets : Budgets) (t : Translation) (number at : ℕ) → IsTranslated text t → IsFaultOf t.text number at →
      IsLtlDue proved bits budgets text status.Refused (fault_text text number (back t at))
