-- Where no unit is false, one answer is due.
use Rattle.std.proofs.Common.{◌≡◌, ◌∙◌, ℕ, false, List, Some, None, sym, ap, ap₂, true≢false}
use Rattle.smv_parse.specs.Laws.{IsNotBoth, IsOneFault, IsOneTree}
use Rattle.smv_print.specs.Canonical.{canonical}
use Rattle.smv_report.specs.Lines.{fault_text}
use Rattle.smv_command.specs.declared.commands.Command.{Command}
use Rattle.smv_command.specs.declared.exit.Status.{Status}
use Rattle.law_valid_texts.specs.Laws.{OneTree, OneReport, OneUnitReport, UnitsAreOrAreNot}
use Rattle.smv_command.specs.declared.commands.Command.TheVariants.{Print, Confirm}
use Rattle.smv_command.specs.declared.exit.Status.TheVariants.{Inducted, AllFormulas}
use Rattle.law_document_answers.specs.Laws.{OneDocumentAnswer}
use Rattle.law_induct_answers.specs.Laws.{OneInductAnswer}
use Rattle.law_ltl_answers.specs.Laws.{OneLtlAnswer}
use Rattle.law_document_answers.proofs.Statuses.{none_false}
use Rattle.law_answers.specs.Dues.{IsDue, bits_of, confirmed, decided, lines_for, of_documents, of_formulas, of_induction, printed, proved_by, refused, text_for}
use Rattle.law_answers.specs.Laws.{is_open}
use Rattle.law_answers.specs.OneAnswer.{OneAnswer, shows_path}
use Rattle.law_answers.proofs.Confirmed.{not_confirmed, same_lines, told_known, told_once}
use Rattle.law_answers.proofs.Answers.{of_ones, of_others}
use Rattle.law_answers.proofs.OneFault.{one_first, unprinted, unreported}
use Rattle.law_answers.proofs.OneReport.{one_for}

module _ (one_spelled : IsOneTree) (one_fault : IsOneFault) (not_both : IsNotBoth) (one_tree : OneTree) (either : UnitsAreOrAreNot) (one_report : OneReport) (one_unit : OneUnitReport) (one_document : OneDocumentAnswer) (one_induct : OneInductAnswer) (one_ltl : OneLtlAnswer) where
  one_of : (command : Command) (text : List ℕ) (due other : Status) (answer another : List ℕ) → IsDue command text due answer → IsDue command text other another → is_open (bits_of command) due ≡ false → is_open (bits_of command) other ≡ false → shows_path due ≡ false → answer ≡ another
  one_of command text _ _ _ _ (decided report is) (decided other is_other) p q not =
      ap (lines_for command) (one_for one_tree one_report one_unit command text report other is is_other p q (none_false (proved_by command) report (λ e. true≢false (sym (ap shows_path e) ∙ not))))
  one_of command text _ _ _ _ (decided report is) (refused number at own fault) p q not = absurd (unreported not_both one_fault one_tree either command text report number at is fault)
  one_of _ text _ _ _ _ (decided report is) (printed tree is_tree) p q not = absurd is
  one_of command text _ other _ another (decided report is) (of_documents due) p q not = absurd (of_others command text report is (of_ones command text other another due))
  one_of _ text _ _ _ _ (printed tree is_tree) (decided report is) p q not = absurd is
  one_of _ text _ _ _ _ (printed tree is_tree) (printed other is_other) p q not = ap canonical (one_tree text tree other is_tree is_other)
  one_of _ text _ _ _ _ (printed tree is_tree) (refused number at own fault) p q not = absurd (unprinted not_both one_fault one_tree text tree number at is_tree fault)
  one_of _ text _ other _ another (printed tree is_tree) (of_documents due) p q not = absurd (true≢false (sym (of_ones Print text other another due)))
  one_of command text _ _ _ _ (refused number at own fault) (decided report is) p q not = absurd (unreported not_both one_fault one_tree either command text report number at is fault)
  one_of _ text _ _ _ _ (refused number at own fault) (printed tree is_tree) p q not = absurd (unprinted not_both one_fault one_tree text tree number at is_tree fault)
  one_of command text _ _ _ _ (refused number at own fault) (refused other place own_too fault_too) p q not =
      let same = one_first not_both one_fault one_tree command text number other at place fault fault_too in
      ap₂ (λ (n k : ℕ). fault_text text n k) same.numbers same.places
  one_of command text _ other _ another (refused number at own fault) (of_documents due) p q not = absurd (true≢false (sym (of_ones command text other another due) ∙ own))
  one_of command text due _ answer _ (of_documents is) (decided report is_report) p q not = absurd (of_others command text report is_report (of_ones command text due answer is))
  one_of _ text due _ answer _ (of_documents is) (printed tree is_tree) p q not = absurd (true≢false (sym (of_ones Print text due answer is)))
  one_of command text due _ answer _ (of_documents is) (refused number at own fault) p q not = absurd (true≢false (sym (of_ones command text due answer is) ∙ own))
  one_of command text due other answer another (of_documents is) (of_documents is_other) p q not = one_document command text due other answer another is is_other (λ e. true≢false (sym (ap shows_path e) ∙ not))
  one_of _ text _ _ _ _ (decided report is) (confirmed name sizes bits budgets tree unit v valid called is_other) p q not = absurd is
  one_of _ text _ _ _ _ (refused number at own fault) (confirmed name sizes bits budgets tree unit v valid called is) p q not = absurd (not_confirmed not_both one_fault one_tree text name sizes bits budgets v number at is fault)
  one_of _ text due _ answer _ (of_documents is) (confirmed name sizes bits budgets tree unit v valid called is_other) p q not = absurd (true≢false (sym (of_ones (Confirm name sizes bits budgets) text due answer is)))
  one_of _ text _ _ _ _ (confirmed name sizes bits budgets tree unit v valid called is) (decided report is_other) p q not = absurd is_other
  one_of _ text _ _ _ _ (confirmed name sizes bits budgets tree unit v valid called is) (refused number at own fault) p q not = absurd (not_confirmed not_both one_fault one_tree text name sizes bits budgets v number at is fault)
  one_of _ text _ other _ another (confirmed name sizes bits budgets tree unit v valid called is) (of_documents is_other) p q not = absurd (true≢false (sym (of_ones (Confirm name sizes bits budgets) text other another is_other)))
  one_of _ text _ _ _ _ (confirmed name sizes bits budgets tree unit v valid called is) (confirmed _ _ _ _ tree_too unit_too w valid_too called_too is_other) p q not =
      same_lines one_tree text name tree tree_too unit unit_too v w valid valid_too called called_too (told_known bits v w (told_once one_tree text name sizes bits budgets.nodes budgets.steps v w is is_other) p q) not
  one_of _ text _ _ _ _ (decided report is) (of_induction name var budgets is_other) p q not = absurd is
  one_of _ text _ _ _ _ (refused number at own fault) (of_induction name var budgets is_other) p q not = absurd (true≢false own)
  one_of _ text _ _ _ _ (of_documents is) (of_induction name var budgets is_other) p q not = elim is [ ]
  one_of _ text _ _ _ _ (of_induction name var budgets is) (decided report is_other) p q not = absurd is_other
  one_of _ text _ _ _ _ (of_induction name var budgets is) (refused number at own fault) p q not = absurd (true≢false own)
  one_of _ text _ _ _ _ (of_induction name var budgets is) (of_documents is_other) p q not = elim is_other [ ]
  one_of _ text due other answer another (of_induction name var budgets is) (of_induction _ _ _ is_other) p q not =
      one_induct Inducted name var budgets text due other answer another is is_other (λ e. true≢false (sym (ap shows_path e) ∙ not))
  one_of _ text _ _ _ _ (decided report is) (of_formulas bits budgets is_other) p q not = absurd is
  one_of _ text _ _ _ _ (refused number at own fault) (of_formulas bits budgets is_other) p q not = absurd (true≢false own)
  one_of _ text _ _ _ _ (of_documents is) (of_formulas bits budgets is_other) p q not = elim is [ ]
  one_of _ text _ _ _ _ (of_formulas bits budgets is) (decided report is_other) p q not = absurd is_other
  one_of _ text _ _ _ _ (of_formulas bits budgets is) (refused number at own fault) p q not = absurd (true≢false own)
  one_of _ text _ _ _ _ (of_formulas bits budgets is) (of_documents is_other) p q not = elim is_other [ ]
  one_of _ text due other answer another (of_formulas bits budgets is) (of_formulas _ _ is_other) p q not =
      one_ltl AllFormulas bits budgets text due other answer another is is_other p q (λ e. true≢false (sym (ap shows_path e) ∙ not))

  pub one_due : OneAnswer
  one_due None text due other answer another is is_other p q not = is.1 ∙ sym is_other.1
  one_due (Some command) text due other answer another is is_other p q not = one_of command (text_for command text) due other answer another is is_other p q not
