-- One status is due to an induction, and where no unit is false one answer.
use Rattle.std.proofs.Common.{◌≡◌, ◌∙◌, ℕ, List, [], refl, sym, ap, ap₂, subst}
use Rattle.std.specs.Prelude.{◌≢◌}
use Rattle.smv_core.specs.Values.{Name}
use Rattle.smv_core.specs.declared.tree.Text.{Text}
use Rattle.smv_bits.specs.declared.Bits.TheVariants.{Declared}
use Rattle.smv_parse.specs.Laws.{IsNotBoth, IsOneFault}
use Rattle.smv_report.specs.Lines.{fault_text}
use Rattle.smv_problem.specs.declared.report.Budgets.{Budgets}
use Rattle.smv_problem.specs.declared.report.Report.{Report}
use Rattle.smv_command.specs.declared.exit.Status.{Status}
use Rattle.smv_command.specs.declared.exit.Status.TheVariants as status
use Rattle.law_events.specs.Laws.{OneVerdict}
use Rattle.law_reports.specs.Lines.{report_lines}
use Rattle.law_valid_texts.specs.Laws.{OneTree}
use Rattle.law_valid_texts.specs.Reports.{IsValid, IsRightReport}
use Rattle.law_checked_proofs.specs.ResumedLaws.{NothingIsReported}
use Rattle.law_judgements.specs.Judgements.{IsFaultOf}
use Rattle.law_judgements.proofs.One.{no_fault, same_fault}
use Rattle.law_document_answers.specs.Statuses.{status_of}
use Rattle.law_document_answers.proofs.Statuses.{same_status, none_false}
use Rattle.law_document_answers.proofs.Alike.{reports_alike, same_report}
use Rattle.law_strengthened_texts.specs.Stronger.{Stronger, back, IsStrengthened, HasNoInduction}
use Rattle.law_inductive_texts.specs.Laws.{OneStronger, NotBothStronger}
use Rattle.law_induct_answers.specs.Dues.{IsInductDue, inducted, refused_text, no_induction, refused_stronger}

-- two statuses and two answers that are one, the answers where no unit is false
pub record Same (due other : Status) (answer another : List ℕ) : Type 0 where
  pub statuses : due ≡ other
  pub answers : due ≢ status.SomeFalse → answer ≡ another

module _ (not_both : IsNotBoth) (one_fault : IsOneFault) (one_tree : OneTree) (one_verdict : OneVerdict) (nothing_told : NothingIsReported) (one_stronger : OneStronger) (apart : NotBothStronger) where
  one_report : (proved : Status) (budgets : Budgets) (text : List ℕ) (report other : Report) → IsRightReport text Declared budgets.nodes budgets.steps report → IsRightReport text Declared budgets.nodes budgets.steps other →
      Same (status_of proved report) (status_of proved other) (report_lines report) (report_lines other)
  one_report proved budgets text report other right right_too =
      let is = (nothing_told text budgets.nodes budgets.steps report).1 right in
      let is_too = (nothing_told text budgets.nodes budgets.steps other).1 right_too in
      record {
        statuses = same_status proved report other (reports_alike one_verdict [] budgets.nodes budgets.steps one_tree text report other is is_too);
        answers = λ not. ap report_lines (same_report one_verdict [] budgets.nodes budgets.steps one_tree text report other is is_too (none_false proved report not));
      }

  none : (text : List ℕ) (tree : Text) (number at : ℕ) {X : Type 0} → IsValid text tree → IsFaultOf text number at → X
  none text tree number at valid fault = absurd (no_fault not_both one_fault one_tree text tree number at valid fault)

  pub one_due : (proved : Status) (name var : Name) (budgets : Budgets) (text : List ℕ) (due other : Status) (answer another : List ℕ) → IsInductDue proved name var budgets text due answer →
      IsInductDue proved name var budgets text other another → Same due other answer another
  one_due _ _ _ _ text _ _ _ _ (inducted proved name var budgets tree s report valid is right) (inducted _ _ _ _ tree_too t report_too valid_too is_too right_too) =
      one_report proved budgets t.text report report_too (subst (λ (z : Stronger). IsRightReport z.text Declared budgets.nodes budgets.steps report) (one_stronger text name var s t is is_too) right) right_too
  one_due _ _ _ _ text _ _ _ _ (inducted proved name var budgets tree s report valid is right) (refused_text _ _ _ _ number at fault) = none text tree number at valid fault
  one_due _ _ _ _ text _ _ _ _ (inducted proved name var budgets tree s report valid is right) (no_induction _ _ _ _ tree_too valid_too not) = absurd (apart text name var s is not)
  one_due _ _ _ _ text _ _ _ _ (inducted proved name var budgets tree s report valid is right) (refused_stronger _ _ _ _ tree_too t number at valid_too is_too fault) =
      none s.text right.0 number at right.1 (subst (λ (z : Stronger). IsFaultOf z.text number at) (one_stronger text name var t s is_too is) fault)
  one_due _ _ _ _ text _ _ _ _ (refused_text proved name var budgets number at fault) (inducted _ _ _ _ tree s report valid is right) = none text tree number at valid fault
  one_due _ _ _ _ text _ _ _ _ (refused_text proved name var budgets number at fault) (refused_text _ _ _ _ other place fault_too) =
      let r = same_fault not_both one_fault one_tree text number other at place fault fault_too in
      record { statuses = refl; answers = λ not. ap₂ (fault_text text) r.0 r.1 }
  one_due _ _ _ _ text _ _ _ _ (refused_text proved name var budgets number at fault) (no_induction _ _ _ _ tree valid not) = none text tree number at valid fault
  one_due _ _ _ _ text _ _ _ _ (refused_text proved name var budgets number at fault) (refused_stronger _ _ _ _ tree s other place valid is fault_too) = none text tree number at valid fault
  one_due _ _ _ _ text _ _ _ _ (no_induction proved name var budgets tree valid not) (inducted _ _ _ _ tree_too s report valid_too is right) = absurd (apart text name var s is not)
  one_due _ _ _ _ text _ _ _ _ (no_induction proved name var budgets tree valid not) (refused_text _ _ _ _ number at fault) = none text tree number at valid fault
  one_due _ _ _ _ text _ _ _ _ (no_induction proved name var budgets tree valid not) (no_induction _ _ _ _ tree_too valid_too not_too) = record { statuses = refl; answers = λ never. refl }
  one_due _ _ _ _ text _ _ _ _ (no_induction proved name var budgets tree valid not) (refused_stronger _ _ _ _ tree_too s number at valid_too is fault) = absurd (apart text name var s is not)
  one_due _ _ _ _ text _ _ _ _ (refused_stronger proved name var budgets tree s number at valid is fault) (inducted _ _ _ _ tree_too t report valid_too is_too right) =
      none t.text right.0 number at right.1 (subst (λ (z : Stronger). IsFaultOf z.text number at) (one_stronger text name var s t is is_too) fault)
  one_due _ _ _ _ text _ _ _ _ (refused_stronger proved name var budgets tree s number at valid is fault) (refused_text _ _ _ _ other place fault_too) = none text tree other place valid fault_too
  one_due _ _ _ _ text _ _ _ _ (refused_stronger proved name var budgets tree s number at valid is fault) (no_induction _ _ _ _ tree_too valid_too not) = absurd (apart text name var s is not)
  one_due _ _ _ _ text _ _ _ _ (refused_stronger proved name var budgets tree s number at valid is fault) (refused_stronger _ _ _ _ tree_too t other place valid_too is_too fault_too) =
      let same = one_stronger text name var t s is_too is in
      let r = same_fault not_both one_fault one_tree s.text number other at place fault (subst (λ (z : Stronger). IsFaultOf z.text other place) same fault_too) in
      record { statuses = refl; answers = λ never. ap₂ (λ n k. fault_text text n (back s k)) r.0 r.1 ∙ ap (λ (z : Stronger). fault_text text other (back z place)) (sym same) }
