-- What is due to the command that proves by induction, by what was found.
use Rattle.std.proofs.Common.{◌≡◌, ◌∙◌, ◌≤◌, ℕ, List, length, true, refl, ap, inl, inr}
use Rattle.smv_core.specs.Values.{Name}
use Rattle.smv_core.specs.declared.tree.Text.{Text}
use Rattle.smv_parse.specs.Laws.{IsNotBoth}
use Rattle.smv_report.specs.Lines.{fault_text}
use Rattle.smv_bits.specs.declared.Bits.TheVariants.{Declared}
use Rattle.smv_problem.specs.declared.report.Budgets.{Budgets}
use Rattle.smv_problem.specs.declared.report.Report.{Report}
use Rattle.smv_command.specs.declared.commands.Command.{Command}
use Rattle.smv_command.specs.declared.commands.Command.TheVariants.{Induct, Prove}
use Rattle.smv_command.specs.declared.exit.Status.{Status}
use Rattle.smv_command.specs.declared.exit.Status.TheVariants as status
use Rattle.law_judgements.specs.Judgements.{IsFaultOf}
use Rattle.law_strengthened_texts.specs.Stronger.{HasNoInduction, IsStrengthened, Stronger, back}
use Rattle.law_induct_answers.specs.Dues.{inducted, no_induction, refused_stronger, refused_text}
use Rattle.law_fault_places.specs.FaultsOfTexts.{FaultsAreWithin}
use Rattle.smv_answers.specs.Reports.{IsRightReport, IsValid}
use Rattle.smv_answers.specs.Dues.{IsDue, IsFault, decides, lines_for, of_induction, proved_by, status_of}
use Rattle.smv_strengthen.specs.Answers.{IsRefused}

module _ (text : List ℕ) (name var : Name) (budgets : Budgets) (due : Status) (answer : List ℕ) where
  pub due_refused_text : (number at : ℕ) → IsFaultOf text number at → due ≡ status.Refused → answer ≡ fault_text text number at → IsDue (Induct name var budgets) text due answer
  due_refused_text number at fault e f = rw e (rw f (of_induction name var budgets (refused_text status.Inducted name var budgets number at fault)))

  due_no_induction : (tree : Text) → IsValid text tree → HasNoInduction text name var → due ≡ status.Refused → answer ≡ fault_text text 36 0 → IsDue (Induct name var budgets) text due answer
  due_no_induction tree valid none e f = rw e (rw f (of_induction name var budgets (no_induction status.Inducted name var budgets tree valid none)))

  -- a valid text is not strengthened where no induction of it is this one
  pub due_unstrengthened : IsNotBoth → (tree : Text) → IsValid text tree → (number at : ℕ) → IsRefused text name var number at → due ≡ status.Refused → answer ≡ fault_text text number at → IsDue (Induct name var budgets) text due answer
  due_unstrengthened apart tree valid number at (inl bad) e f = absurd (apart text tree number at valid.is_tree.spelled bad)
  due_unstrengthened apart tree valid number at (inr none) e f = due_no_induction tree valid none.0 e (f ∙ (λ i. fault_text text (none.1 i) (none.2 i)))

  pub due_refused_stronger : (tree : Text) (s : Stronger) (number at : ℕ) → IsValid text tree → IsStrengthened text name var s → IsFaultOf s.text number at → due ≡ status.Refused → answer ≡ fault_text text number (back s at) →
      IsDue (Induct name var budgets) text due answer
  due_refused_stronger tree s number at valid is fault e f = rw e (rw f (of_induction name var budgets (refused_stronger status.Inducted name var budgets tree s number at valid is fault)))

  pub due_inducted : (command : Command) (tree : Text) (s : Stronger) (report : Report) → command ≡ Induct name var budgets → IsValid text tree → IsStrengthened text name var s →
      IsRightReport s.text Declared budgets.nodes budgets.steps report → due ≡ status_of (proved_by command) report → answer ≡ lines_for command report → IsDue (Induct name var budgets) text due answer
  due_inducted command tree s report asks valid is right e f =
      let g = e ∙ ap (λ (k : Command). status_of (proved_by k) report) asks in
      let h = f ∙ ap (λ (k : Command). lines_for k report) asks in
      rw g (rw h (of_induction name var budgets (inducted status.Inducted name var budgets tree s report valid is right)))

-- a fault that is told of bytes stands within them
pub placed : FaultsAreWithin → (bytes : List ℕ) (number at : ℕ) → ((command : Command) → decides command ≡ true → IsFault command bytes number at) → at ≤ length bytes
placed law bytes number at is = (law (Prove Declared (record { nodes = 1; steps = 1 })) bytes number at (is (Prove Declared (record { nodes = 1; steps = 1 })) refl)).place
