-- A text has one first fault under a command.
use Rattle.std.proofs.Common.{◌≡◌, ◌∙◌, ℕ, ◌<◌, List, length, Some, refl, sym, ap, arith, true≢false}
use Rattle.law_lists.proofs.Options.{some_is}
use Rattle.smv_core.specs.declared.fault.Fault.{Fault}
use Rattle.smv_core.specs.declared.tree.Text.{Text}
use Rattle.smv_parse.specs.Spelling.{HasFault}
use Rattle.smv_parse.specs.Laws.{IsNotBoth, IsOneFault}
use Rattle.smv_problem.specs.declared.report.Report.{Report}
use Rattle.smv_command.specs.declared.commands.Command.{Command}
use Rattle.smv_command.specs.declared.commands.Command.TheVariants.{Prove, Only, Print, Generated, Proof, Check, Resume, Confirm, Induct, Ltl}
use Rattle.law_valid_texts.specs.Plans.{IsTree}
use Rattle.law_valid_texts.specs.Faults.{pass_fault}
use Rattle.law_valid_texts.specs.Laws.{OneTree, UnitsAreOrAreNot}
use Rattle.law_valid_texts.specs.Reports.{IsValid}
use Rattle.law_answers.specs.Dues.{IsFault, IsReportFor, faulty, limit, malformed, of_unit, too_long, unnamed}
use Rattle.law_answers.proofs.Confirmed.{one_unit_fault, text_of_fault}

-- numbers and offsets that are the same
pub record AreSame (number other at place : ℕ) : Type 0 where
  pub numbers : number ≡ other
  pub places : at ≡ place

same_fault : (f g : Fault) → f ≡ g → AreSame f.number g.number f.at g.at
same_fault f g e = record { numbers = ap (λ (x : Fault). x.number) e; places = ap (λ (x : Fault). x.at) e }

module _ (not_both : IsNotBoth) (one_fault : IsOneFault) (one_tree : OneTree) where
  -- what a tree's form cannot have
  formed : (text : List ℕ) (tree : Text) (number at : ℕ) → IsTree text tree → HasFault text number at → ⊥
  formed text tree number at is fault = not_both text tree number at is.spelled fault

  short : (text : List ℕ) (tree : Text) → IsTree text tree → limit < length text → ⊥
  short text tree is long =
      let within = is.within in
      omega (arith, long, within)

  both_faulty : (text : List ℕ) (tree other : Text) (f g : Fault) → IsTree text tree → IsTree text other → pass_fault tree ≡ Some f → pass_fault other ≡ Some g → AreSame f.number g.number f.at g.at
  both_faulty text tree other f g is is_other found found_other =
      same_fault f g (some_is (sym found ∙ (ap pass_fault (one_tree text tree other is is_other) ∙ found_other)))

  -- a valid text has none of the passes
  unfaulty : (text : List ℕ) (tree other : Text) (f : Fault) → IsValid text tree → IsTree text other → pass_fault other ≡ Some f → ⊥
  unfaulty text tree other f valid is found =
      let both = sym found ∙ (ap pass_fault (one_tree text other tree is valid.is_tree) ∙ valid.is_faultless) in
      let bad : ⊥ = cc in
      bad

  -- a text that spells a tree has none under `print`
  pub unprinted : (text : List ℕ) (tree : Text) (number at : ℕ) → IsTree text tree → IsFault Print text number at → ⊥
  unprinted text tree _ _ is (too_long long) = short text tree is long
  unprinted text tree _ _ is (malformed number at within fault) = formed text tree number at is fault
  unprinted text tree _ _ is (faulty other fault deciding is_other found) = true≢false (sym deciding)

  -- the valid text of a right report
  reported : (command : Command) (text : List ℕ) (report : Report) → IsReportFor command text report → (tree : Text) × IsValid text tree
  reported (Prove bits budgets) text report is = (is.0, is.1)
  reported (Only name bits budgets) text report is = (is.0, is.1)
  reported Print text report is = absurd is
  reported (Generated copies) text report is = (is.0, is.1)
  reported (Proof budgets) text report is = absurd is
  reported Check text report is = absurd is
  reported (Resume budgets) text report is = absurd is
  reported (Confirm name sizes bits budgets) text report is = absurd is
  reported (Induct name var budgets) text report is = absurd is
  reported (Ltl bits budgets) text report is = absurd is

  -- a text of which there is a right report has none
  pub unreported : UnitsAreOrAreNot → (command : Command) (text : List ℕ) (report : Report) (number at : ℕ) → IsReportFor command text report → IsFault command text number at → ⊥
  unreported either command text report _ _ is (too_long long) =
      let valid = reported command text report is in
      short text valid.0 valid.1.is_tree long
  unreported either command text report _ _ is (malformed number at within fault) =
      let valid = reported command text report is in
      formed text valid.0 number at valid.1.is_tree fault
  unreported either command text report _ _ is (faulty tree f deciding is_tree found) =
      let valid = reported command text report is in
      unfaulty text valid.0 tree f valid.1 is_tree found
  unreported either _ text report _ _ is (unnamed name bits nodes steps none) = either text name bits nodes steps report is none
  unreported either _ text report _ _ is (of_unit name sizes bits budgets number at fault) = is

  pub one_first : (command : Command) (text : List ℕ) (number other at place : ℕ) → IsFault command text number at → IsFault command text other place → AreSame number other at place
  one_first command text _ _ _ _ (too_long long) (too_long longer) = record { numbers = refl; places = refl }
  one_first command text _ _ _ _ (too_long long) (malformed other place within fault) = absurd (omega (arith, long, within))
  one_first command text _ _ _ _ (too_long long) (faulty tree fault deciding is found) = absurd (short text tree is long)
  one_first _ text _ _ _ _ (too_long long) (unnamed name bits nodes steps none) = absurd (short text none.0 none.1.is_tree long)
  one_first command text _ _ _ _ (malformed number at within fault) (too_long long) = absurd (omega (arith, long, within))
  one_first command text _ _ _ _ (malformed number at within fault) (malformed other place within_too fault_too) =
      let same = one_fault text number other at place fault fault_too in
      record { numbers = same.0; places = same.1 }
  one_first command text _ _ _ _ (malformed number at within fault) (faulty tree f deciding is found) = absurd (formed text tree number at is fault)
  one_first _ text _ _ _ _ (malformed number at within fault) (unnamed name bits nodes steps none) = absurd (formed text none.0 number at none.1.is_tree fault)
  one_first command text _ _ _ _ (faulty tree f deciding is found) (too_long long) = absurd (short text tree is long)
  one_first command text _ _ _ _ (faulty tree f deciding is found) (malformed other place within fault) = absurd (formed text tree other place is fault)
  one_first command text _ _ _ _ (faulty tree f deciding is found) (faulty tree_too g deciding_too is_too found_too) = both_faulty text tree tree_too f g is is_too found found_too
  one_first _ text _ _ _ _ (faulty tree f deciding is found) (unnamed name bits nodes steps none) = absurd (unfaulty text none.0 tree f none.1 is found)
  one_first _ text _ _ _ _ (unnamed name bits nodes steps none) (too_long long) = absurd (short text none.0 none.1.is_tree long)
  one_first _ text _ _ _ _ (unnamed name bits nodes steps none) (malformed other place within fault) = absurd (formed text none.0 other place none.1.is_tree fault)
  one_first _ text _ _ _ _ (unnamed name bits nodes steps none) (faulty tree f deciding is found) = absurd (unfaulty text none.0 tree f none.1 is found)
  one_first _ text _ _ _ _ (unnamed name bits nodes steps none) (unnamed other bits_too images turns none_too) = record { numbers = refl; places = refl }
  one_first _ text _ _ _ _ (too_long long) (of_unit name sizes bits budgets number at fault) =
      let valid = text_of_fault text name sizes number at fault in
      absurd (short text valid.0 valid.1.is_tree long)
  one_first _ text _ _ _ _ (malformed number at within fault) (of_unit name sizes bits budgets other place of_sizes) =
      let valid = text_of_fault text name sizes other place of_sizes in
      absurd (formed text valid.0 number at valid.1.is_tree fault)
  one_first _ text _ _ _ _ (faulty tree f deciding is found) (of_unit name sizes bits budgets other place of_sizes) =
      let valid = text_of_fault text name sizes other place of_sizes in
      absurd (unfaulty text valid.0 tree f valid.1 is found)
  one_first _ text _ _ _ _ (of_unit name sizes bits budgets number at fault) (too_long long) =
      let valid = text_of_fault text name sizes number at fault in
      absurd (short text valid.0 valid.1.is_tree long)
  one_first _ text _ _ _ _ (of_unit name sizes bits budgets number at of_sizes) (malformed other place within fault) =
      let valid = text_of_fault text name sizes number at of_sizes in
      absurd (formed text valid.0 other place valid.1.is_tree fault)
  one_first _ text _ _ _ _ (of_unit name sizes bits budgets number at of_sizes) (faulty tree f deciding is found) =
      let valid = text_of_fault text name sizes number at of_sizes in
      absurd (unfaulty text valid.0 tree f valid.1 is found)
  one_first _ text _ _ _ _ (of_unit name sizes bits budgets number at fault) (of_unit _ _ _ _ other place fault_too) =
      let same = one_unit_fault one_tree text name sizes number other at place fault fault_too in
      record { numbers = same.0; places = same.1 }
