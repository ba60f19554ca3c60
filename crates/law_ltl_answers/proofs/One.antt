-- One status is due to a text with formulas beside one that leaves it open, and where no unit is false one answer.
use Rattle.std.proofs.Common.{◌≡◌, ◌∙◌, ℕ, false, List, refl, sym, ap, ap₂, subst}
use Rattle.std.specs.Prelude.{◌≢◌}
use Rattle.smv_bits.specs.declared.Bits.{Bits}
use Rattle.smv_parse.specs.Laws.{IsNotBoth, IsOneFault}
use Rattle.smv_report.specs.Lines.{fault_text}
use Rattle.smv_problem.specs.declared.report.Budgets.{Budgets}
use Rattle.smv_problem.specs.declared.report.Report.{Report}
use Rattle.smv_command.specs.declared.exit.Status.{Status}
use Rattle.smv_command.specs.declared.exit.Status.TheVariants as status
use Rattle.law_reports.specs.Lines.{report_lines}
use Rattle.law_valid_texts.specs.Laws.{OneTree, OneReport}
use Rattle.law_valid_texts.specs.Reports.{IsRightReport}
use Rattle.law_judgements.specs.Judgements.{IsFaultOf}
use Rattle.law_judgements.proofs.One.{no_fault, same_fault}
use Rattle.law_document_answers.specs.Statuses.{status_of}
use Rattle.law_document_answers.proofs.Statuses.{none_false}
use Rattle.law_translated_texts.specs.Translation.{Translation, back}
use Rattle.law_exact_translations.specs.Laws.{TranslationsAreOne}
use Rattle.law_ltl_answers.specs.Dues.{IsLtlDue, translated, refused_text, refused_translation}
use Rattle.law_ltl_answers.specs.Laws.{leaves_open, NotBothTranslated, OneRefusal}
use Rattle.law_ltl_answers.proofs.Open.{status_alike, told_equal}
use Rattle.law_ltl_answers.proofs.Reports.{right_is}

-- two statuses and two answers that are one where nothing is left open, the answers where besides no unit is false
pub record Same (bits : Bits) (due other : Status) (answer another : List ℕ) : Type 0 where
  pub statuses : leaves_open bits due ≡ false → leaves_open bits other ≡ false → due ≡ other
  pub answers : leaves_open bits due ≡ false → leaves_open bits other ≡ false → due ≢ status.SomeFalse → answer ≡ another

module _ (not_both : IsNotBoth) (one_fault : IsOneFault) (one_tree : OneTree) (one_report : OneReport) (one : TranslationsAreOne) (apart : NotBothTranslated) (one_refusal : OneRefusal) where
  one_text : (proved : Status) (bits : Bits) (budgets : Budgets) (text : List ℕ) (report other : Report) → IsRightReport text bits budgets.nodes budgets.steps report → IsRightReport text bits budgets.nodes budgets.steps other →
      Same bits (status_of proved report) (status_of proved other) (report_lines report) (report_lines other)
  one_text proved bits budgets text report other right right_too =
      let each = one_report text bits budgets.nodes budgets.steps report other right right_too in
      record {
        statuses = λ o p. status_alike bits proved report other each o p;
        answers = λ o p not.
            let none = none_false proved report not in
            ap report_lines (right_is one_tree text bits budgets.nodes budgets.steps report other right right_too (told_equal bits proved report other each o p none) none);
      }

  none : (t : Translation) (bits : Bits) (nodes steps : ℕ) (report : Report) (number at : ℕ) {X : Type 0} → IsRightReport t.text bits nodes steps report → IsFaultOf t.text number at → X
  none t bits nodes steps report number at right fault = absurd (no_fault not_both one_fault one_tree t.text right.0 number at right.1 fault)

  pub one_due : (proved : Status) (bits : Bits) (budgets : Budgets) (text : List ℕ) (due other : Status) (answer another : List ℕ) → IsLtlDue proved bits budgets text due answer → IsLtlDue proved bits budgets text other another →
      Same bits due other answer another
  one_due _ _ _ text _ _ _ _ (translated proved bits budgets t report is right) (translated _ _ _ u report_too is_too right_too) =
      one_text proved bits budgets u.text report report_too (subst (λ (z : Translation). IsRightReport z.text bits budgets.nodes budgets.steps report) (one text t u is is_too) right) right_too
  one_due _ _ _ text _ _ _ _ (translated proved bits budgets t report is right) (refused_text _ _ _ number at refused) = absurd (apart text t number at is refused)
  one_due _ _ _ text _ _ _ _ (translated proved bits budgets t report is right) (refused_translation _ _ _ u number at is_too fault) =
      none t bits budgets.nodes budgets.steps report number at right (subst (λ (z : Translation). IsFaultOf z.text number at) (one text u t is_too is) fault)
  one_due _ _ _ text _ _ _ _ (refused_text proved bits budgets number at refused) (translated _ _ _ u report_too is_too right_too) = absurd (apart text u number at is_too refused)
  one_due _ _ _ text _ _ _ _ (refused_text proved bits budgets number at refused) (refused_text _ _ _ other place refused_too) =
      let r = one_refusal text number other at place refused refused_too in
      record { statuses = λ o p. refl; answers = λ o p not. ap₂ (fault_text text) r.0 r.1 }
  one_due _ _ _ text _ _ _ _ (refused_text proved bits budgets number at refused) (refused_translation _ _ _ u other place is_too fault) = absurd (apart text u number at is_too refused)
  one_due _ _ _ text _ _ _ _ (refused_translation proved bits budgets t number at is fault) (translated _ _ _ u report_too is_too right_too) =
      none u bits budgets.nodes budgets.steps report_too number at right_too (subst (λ (z : Translation). IsFaultOf z.text number at) (one text t u is is_too) fault)
  one_due _ _ _ text _ _ _ _ (refused_translation proved bits budgets t number at is fault) (refused_text _ _ _ other place refused) = absurd (apart text t other place is refused)
  one_due _ _ _ text _ _ _ _ (refused_translation proved bits budgets t number at is fault) (refused_translation _ _ _ u other place is_too fault_too) =
      let same = one text u t is_too is in
      let r = same_fault not_both one_fault one_tree t.text number other at place fault (subst (λ (z : Translation). IsFaultOf z.text other place) same fault_too) in
      record { statuses = λ o p. refl; answers = λ o p not. ap₂ (λ n k. fault_text text n (back t k)) r.0 r.1 ∙ ap (λ (z : Translation). fault_text text other (back z place)) (sym same) }
