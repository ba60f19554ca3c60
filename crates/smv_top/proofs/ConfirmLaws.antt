-- What is due where a unit is decided at given sizes, by what was found.
use Rattle.std.proofs.Common.{◌≡◌, ◌∙◌, ◌++◌, ℕ, suc, List, [], ◌∷◌, ap, refl, subst, arith}
use Rattle.smv_core.specs.declared.fault.Fault.{Fault}
use Rattle.smv_core.specs.declared.flat.Design.{Design}
use Rattle.smv_core.specs.declared.flat.Param.{Param}
use Rattle.smv_bits.specs.declared.Bits.{Bits}
use Rattle.smv_problem.specs.declared.report.Budgets.{Budgets}
use Rattle.smv_command.specs.declared.commands.Command.TheVariants.{Confirm}
use Rattle.smv_command.specs.declared.exit.Status.{Status}
use Rattle.smv_command.specs.declared.exit.Status.TheVariants as status
use Rattle.smv_command.specs.Ranges.{AreSizes}
use Rattle.smv_report.specs.Lines.{fault_text}
use Rattle.smv_report_lines.specs.Parts.{details}
use Rattle.law_valid_texts.specs.Joined.{flat_design}
use Rattle.law_obligations.specs.Sets.{first, later}
use Rattle.smv_confirm.specs.declared.Confirmed.{Confirmed}
use Rattle.smv_confirm.specs.Confirmations.{AreInRange, IsConfirmation, IsConfirmFault, of_text, of_unit as unit_refused}
use Rattle.law_answers.specs.Confirmations.{confirmed_heading, confirmed_status}
use Rattle.smv_answers.specs.Dues.{IsDue, confirmed, of_unit}
use Rattle.smv_top.proofs.DueLaws.{due_fault}

-- each size that a command gives is in its range
pub in_range : (sizes : List ℕ) → AreSizes sizes → AreInRange sizes
in_range [] all k h = elim h [ ]
in_range (x ∷ sizes) all _ first = all 0 x (omega arith)
in_range (x ∷ sizes) all k (later h) = in_range sizes (λ i d short. all (suc i) d (omega (arith, short))) k h

module _ (text name sizes : List ℕ) (bits : Bits) (budgets : Budgets) (due : Status) (answer : List ℕ) where
  pub due_confirmed : (c : Confirmed) → IsConfirmation text name sizes bits budgets.nodes budgets.steps c → due ≡ confirmed_status c.verdict → answer ≡ confirmed_heading name c.verdict ++ details c.design c.params c.verdict →
      IsDue (Confirm name sizes bits budgets) text due answer
  due_confirmed c is e f =
      let g = f ∙ (ap (λ (d : Design). confirmed_heading name c.verdict ++ details d c.params c.verdict) is.design ∙ ap (λ (params : List Param). confirmed_heading name c.verdict ++ details (flat_design is.tree) params c.verdict) is.params) in
      rw e (rw g (confirmed name sizes bits budgets is.tree is.unit c.verdict is.is_valid is.is_called is.is_confirmed))

  -- the same, by a name of equal bytes
  pub due_told : (c : Confirmed) (called : List ℕ) → IsConfirmation text name sizes bits budgets.nodes budgets.steps c → called ≡ name → due ≡ confirmed_status c.verdict →
      answer ≡ confirmed_heading called c.verdict ++ details c.design c.params c.verdict → IsDue (Confirm name sizes bits budgets) text due answer
  due_told c called is same e f = due_confirmed c is e (subst (λ (x : List ℕ). answer ≡ confirmed_heading x c.verdict ++ details c.design c.params c.verdict) same f)

  pub due_refused : (fault : Fault) → IsConfirmFault text name sizes fault → due ≡ status.Refused → answer ≡ fault_text text fault.number fault.at → IsDue (Confirm name sizes bits budgets) text due answer
  due_refused fault (of_text is) e f = due_fault (Confirm name sizes bits budgets) text fault.number fault.at due answer refl (is (Confirm name sizes bits budgets) refl) e f
  due_refused fault (unit_refused is) e f = due_fault (Confirm name sizes bits budgets) text fault.number fault.at due answer refl (of_unit name sizes bits budgets fault.number fault.at is) e f
