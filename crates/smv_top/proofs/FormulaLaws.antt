-- What is due to the command that proves formulas over several times, by what was found.
use Rattle.std.proofs.Common.{◌≡◌, ◌∙◌, ℕ, List, ap}
use Rattle.smv_report.specs.Lines.{fault_text}
use Rattle.smv_bits.specs.declared.Bits.{Bits}
use Rattle.smv_problem.specs.declared.report.Budgets.{Budgets}
use Rattle.smv_problem.specs.declared.report.Report.{Report}
use Rattle.smv_command.specs.declared.commands.Command.{Command}
use Rattle.smv_command.specs.declared.commands.Command.TheVariants.{Ltl}
use Rattle.smv_command.specs.declared.exit.Status.{Status}
use Rattle.smv_command.specs.declared.exit.Status.TheVariants as status
use Rattle.law_judgements.specs.Judgements.{IsFaultOf}
use Rattle.law_translated_texts.specs.Answers.{IsRefused, IsTranslated}
use Rattle.law_translated_texts.specs.Translation.{Translation, back}
use Rattle.law_ltl_answers.specs.Dues.{refused_text, refused_translation, translated}
use Rattle.smv_answers.specs.Reports.{IsRightReport}
use Rattle.smv_answers.specs.Dues.{IsDue, lines_for, of_formulas, proved_by, status_of}

module _ (text : List ℕ) (bits : Bits) (budgets : Budgets) (due : Status) (answer : List ℕ) where
  pub due_refused_text : (number at : ℕ) → IsRefused text number at → due ≡ status.Refused → answer ≡ fault_text text number at → IsDue (Ltl bits budgets) text due answer
  due_refused_text number at fault e f = rw e (rw f (of_formulas bits budgets (refused_text status.AllFormulas bits budgets number at fault)))

  pub due_refused_translation : (t : Translation) (number at : ℕ) → IsTranslated text t → IsFaultOf t.text number at → due ≡ status.Refused → answer ≡ fault_text text number (back t at) → IsDue (Ltl bits budgets) text due answer
  due_refused_translation t number at is fault e f = rw e (rw f (of_formulas bits budgets (refused_translation status.AllFormulas bits budgets t number at is fault)))

  pub due_translated : (command : Command) (t : Translation) (report : Report) → command ≡ Ltl bits budgets → IsTranslated text t → IsRightReport t.text bits budgets.nodes budgets.steps report → due ≡ status_of (proved_by command) report →
      answer ≡ lines_for command report → IsDue (Ltl bits budgets) text due answer
  due_translated command t report asks is right e f =
      let g = e ∙ ap (λ (k : Command). status_of (proved_by k) report) asks in
      let h = f ∙ ap (λ (k : Command). lines_for k report) asks in
      rw g (rw h (of_formulas bits budgets (translated status.AllFormulas bits budgets t report is right)))
