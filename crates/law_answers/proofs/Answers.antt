-- What statuses say of reports, and that a text has not both a report and a fault.
use Rattle.std.proofs.Common.{◌≡◌, ◌∙◌, ℕ, Bool, true, false, List, Option, Some, None, ap, arith, refl, subst, sym, true≢false}
use Rattle.std.specs.Prelude.{if◌then◌else◌}
use Rattle.std.specs.List.{list_any}
use Rattle.smv_core.specs.declared.tree.Text.{Text}
use Rattle.smv_bits.specs.declared.Bits.{Bits}
use Rattle.smv_problem.specs.declared.report.Verdict.{Verdict}
use Rattle.smv_problem.specs.declared.report.Verdict.TheVariants as verdict
use Rattle.smv_problem.specs.declared.report.Report.{Report}
use Rattle.law_reports.specs.Reports.{AllTrueUnits, told_of}
use Rattle.law_reports.specs.Verdicts.{AreOneEach}
use Rattle.smv_parse.specs.Laws.{IsNotBoth, IsOneFault}
use Rattle.smv_command.specs.declared.commands.Command.{Command}
use Rattle.smv_command.specs.declared.commands.Command.TheVariants.{Prove, Only, Print, Generated, Proof, Check, Resume, Confirm, Induct, Ltl}
use Rattle.smv_command.specs.declared.exit.Status.{Status}
use Rattle.smv_command.specs.declared.exit.Status.TheVariants as status
use Rattle.law_valid_texts.specs.Plans.{IsTree}
use Rattle.law_valid_texts.specs.Faults.{pass_fault}
use Rattle.law_valid_texts.specs.Reports.{IsValid, IsRightReport}
use Rattle.law_valid_texts.specs.Laws.{OneTree, OneReport, OneUnitReport, UnitsAreOrAreNot}
use Rattle.law_judgements.specs.Judgements.{Judgement}
use Rattle.law_judgements.specs.Judgements.Judgement.{yes, form, design, set}
use Rattle.law_document_answers.specs.Laws.{OneDocumentStatus}
use Rattle.law_document_answers.specs.Dues.{IsDocumentDue, documented, open_report, refused_text, too_long_to_check, judged, refused_design, too_long_to_resume, not_old, refused_new, resumed, open_resumed, status_by}
use Rattle.law_document_answers.proofs.Statuses.{true_units}
use Rattle.law_induct_answers.specs.Laws.{OneInductStatus}
use Rattle.law_ltl_answers.specs.Laws.{OneLtlStatus}
use Rattle.law_ltl_answers.proofs.Open.{status_alike}
use Rattle.law_induct_answers.proofs.Statuses.{of_statuses}
use Rattle.law_answers.proofs.Statuses.{of_ltl_statuses}
use Rattle.law_answers.specs.Confirmations.{confirmed_status}
use Rattle.law_answers.specs.Laws.{is_open}
use Rattle.law_answers.proofs.Confirmed.{not_confirmed, same_status_of, told_known, told_once}
use Rattle.law_answers.specs.Dues.{IsDue, IsDueTo, IsFault, IsReportFor, bits_of, confirmed, decided, default_bits, default_nodes, default_steps, faulty, is_false, is_of_own, is_unknown, malformed, of_documents, of_formulas, of_induction, of_unit, printed, proved_by, refused, status_of, text_for, too_long, unnamed}

-- ---- all is proved

-- whether all is proved
abbrev is_all : Status → Bool
is_all status.AllProved = true
is_all _ = false

-- a status says that all is proved where the command's does and no unit is false or unknown
pub all_proved : (proved : Status) (report : Report) → status_of proved report ≡ status.AllProved → (proved ≡ status.AllProved) × AllTrueUnits report.units
all_proved proved report e = go (list_any (λ u. is_false u.verdict) report.units) (list_any (λ u. is_unknown u.verdict) report.units) refl refl e
  where
    go : (x y : Bool) → list_any (λ u. is_false u.verdict) report.units ≡ x → list_any (λ u. is_unknown u.verdict) report.units ≡ y
        → (if x then status.SomeFalse else (if y then status.SomeUnknown else proved)) ≡ status.AllProved → (proved ≡ status.AllProved) × AllTrueUnits report.units
    go true y f u e = absurd (true≢false (sym (ap is_all e)))
    go false true f u e = absurd (true≢false (sym (ap is_all e)))
    go false false f u e = (e, true_units report.units f u)

-- ---- not both

pub valid_text : (command : Command) (text : List ℕ) (report : Report) → IsReportFor command text report → (tree : Text) × IsValid text tree
valid_text (Prove bits budgets) text report is = (is.0, is.1)
valid_text (Only name bits budgets) text report is = (is.0, is.1)
valid_text Print text report is = absurd is
valid_text (Generated copies) text report is = (is.0, is.1)
valid_text (Proof budgets) text report is = absurd is
valid_text Check text report is = absurd is
valid_text (Resume budgets) text report is = absurd is
valid_text (Confirm name sizes bits budgets) text report is = absurd is
valid_text (Induct name var budgets) text report is = absurd is
valid_text (Ltl bits budgets) text report is = absurd is

-- what is due of documents is due to a command on documents
pub of_ones : (command : Command) (text : List ℕ) (due : Status) (answer : List ℕ) → IsDocumentDue command text due answer → is_of_own command ≡ true
of_ones (Proof budgets) text due answer is = refl
of_ones Check text due answer is = refl
of_ones (Resume budgets) text due answer is = refl
of_ones (Prove bits budgets) text due answer is = elim is [ ]
of_ones (Only name bits budgets) text due answer is = elim is [ ]
of_ones Print text due answer is = elim is [ ]
of_ones (Generated copies) text due answer is = elim is [ ]
of_ones (Confirm name sizes bits budgets) text due answer is = elim is [ ]
of_ones (Induct name var budgets) text due answer is = refl
of_ones (Ltl bits budgets) text due answer is = refl

-- and no command on documents asks for a report
pub of_others : (command : Command) (text : List ℕ) (report : Report) → IsReportFor command text report → is_of_own command ≡ true → ⊥
of_others (Prove bits budgets) text report is e = true≢false (sym e)
of_others (Only name bits budgets) text report is e = true≢false (sym e)
of_others Print text report is e = is
of_others (Generated copies) text report is e = true≢false (sym e)
of_others (Proof budgets) text report is e = is
of_others Check text report is e = is
of_others (Resume budgets) text report is e = is
of_others (Confirm name sizes bits budgets) text report is e = is
of_others (Induct name var budgets) text report is e = is
of_others (Ltl bits budgets) text report is e = is

module _ (not_both : IsNotBoth) (one_fault : IsOneFault) (one_tree : OneTree) (either : UnitsAreOrAreNot) where
  pub not_faulty : (command : Command) (text : List ℕ) (report : Report) (number at : ℕ) → IsReportFor command text report → IsFault command text number at → ⊥
  not_faulty command text report _ _ is (too_long long) =
      let within = (valid_text command text report is).1.is_tree.within in
      omega (arith, long, within)
  not_faulty command text report _ _ is (malformed number at within fault) =
      let tree = valid_text command text report is in
      not_both text tree.0 number at tree.1.is_tree.spelled fault
  not_faulty command text report _ _ is (faulty tree fault deciding is_tree found) =
      let valid = valid_text command text report is in
      let same = one_tree text tree valid.0 is_tree valid.1.is_tree in
      let both = sym (subst (λ (t : Text). pass_fault t ≡ Some fault) same found) ∙ valid.1.is_faultless in
      let bad : ⊥ = cc in
      bad
  not_faulty _ text report _ _ is (unnamed name bits nodes steps none) = either text name bits nodes steps report is none
  not_faulty _ text report _ _ is (of_unit name sizes bits budgets number at fault) = is

  not_printed : (text : List ℕ) (tree : Text) (number at : ℕ) → IsTree text tree → IsFault Print text number at → ⊥
  not_printed text tree _ _ is (too_long long) =
      let within = is.within in
      omega (arith, long, within)
  not_printed text tree _ _ is (malformed number at within fault) = not_both text tree number at is.spelled fault
  not_printed text tree _ _ is (faulty other fault deciding is_tree found) = true≢false (sym deciding)

  module _ (one_report : OneReport) (one_unit : OneUnitReport) (one_document : OneDocumentStatus) (one_induct : OneInductStatus) (one_ltl : OneLtlStatus) where
    told_alike : (command : Command) (text : List ℕ) (report other : Report) → IsReportFor command text report → IsReportFor command text other → AreOneEach (bits_of command) (told_of report.units) (told_of other.units)
    told_alike (Prove bits budgets) text report other is is_other = one_report text bits budgets.nodes budgets.steps report other is is_other
    told_alike (Only name bits budgets) text report other is is_other = one_unit text name bits budgets.nodes budgets.steps report other is is_other
    told_alike Print text report other is is_other = absurd is
    told_alike (Generated copies) text report other is is_other = one_report text default_bits default_nodes default_steps report other is is_other
    told_alike (Proof budgets) text report other is is_other = absurd is
    told_alike Check text report other is is_other = absurd is
    told_alike (Resume budgets) text report other is is_other = absurd is
    told_alike (Confirm name sizes bits budgets) text report other is is_other = absurd is
    told_alike (Induct name var budgets) text report other is is_other = absurd is
    told_alike (Ltl bits budgets) text report other is is_other = absurd is

    pub one_due : (command : Command) (text : List ℕ) (due other : Status) (answer another : List ℕ) → IsDue command text due answer → IsDue command text other another → is_open (bits_of command) due ≡ false → is_open (bits_of command) other ≡ false → due ≡ other
    one_due command text _ _ _ _ (decided report is) (decided another is_another) p q = status_alike (bits_of command) (proved_by command) report another (told_alike command text report another is is_another) p q
    one_due command text _ _ _ _ (decided report is) (refused number at other fault) p q = absurd (not_faulty command text report number at is fault)
    one_due _ text _ _ _ _ (decided report is) (printed tree is_tree) p q = absurd is
    one_due command text _ other _ another (decided report is) (of_documents due) p q = absurd (of_others command text report is (of_ones command text other another due))
    one_due _ text _ _ _ _ (printed tree is_tree) (decided report is) p q = absurd is
    one_due _ text _ _ _ _ (printed tree is_tree) (printed other is_other) p q = refl
    one_due _ text _ _ _ _ (printed tree is_tree) (refused number at other fault) p q = absurd (not_printed text tree number at is_tree fault)
    one_due _ text _ other _ another (printed tree is_tree) (of_documents due) p q = absurd (true≢false (sym (of_ones Print text other another due)))
    one_due command text _ _ _ _ (refused number at other fault) (decided report is) p q = absurd (not_faulty command text report number at is fault)
    one_due _ text _ _ _ _ (refused number at other fault) (printed tree is_tree) p q = absurd (not_printed text tree number at is_tree fault)
    one_due command text _ _ _ _ (refused number at other fault) (refused place where_at another fault_too) p q = refl
    one_due command text _ other _ another (refused number at not fault) (of_documents due) p q = absurd (true≢false (sym (of_ones command text other another due) ∙ not))
    one_due command text due _ answer _ (of_documents is) (decided report is_report) p q = absurd (of_others command text report is_report (of_ones command text due answer is))
    one_due _ text due _ answer _ (of_documents is) (printed tree is_tree) p q = absurd (true≢false (sym (of_ones Print text due answer is)))
    one_due command text due _ answer _ (of_documents is) (refused number at not fault) p q = absurd (true≢false (sym (of_ones command text due answer is) ∙ not))
    one_due command text due other answer another (of_documents is) (of_documents is_other) p q = one_document command text due other answer another is is_other
    one_due _ text _ _ _ _ (decided report is) (confirmed name sizes bits budgets tree unit v valid called is_other) p q = absurd is
    one_due _ text _ _ _ _ (refused number at not fault) (confirmed name sizes bits budgets tree unit v valid called is) p q = absurd (not_confirmed not_both one_fault one_tree text name sizes bits budgets v number at is fault)
    one_due _ text due _ answer _ (of_documents is) (confirmed name sizes bits budgets tree unit v valid called is_other) p q = absurd (true≢false (sym (of_ones (Confirm name sizes bits budgets) text due answer is)))
    one_due _ text _ _ _ _ (confirmed name sizes bits budgets tree unit v valid called is) (decided report is_other) p q = absurd is_other
    one_due _ text _ _ _ _ (confirmed name sizes bits budgets tree unit v valid called is) (refused number at not fault) p q = absurd (not_confirmed not_both one_fault one_tree text name sizes bits budgets v number at is fault)
    one_due _ text _ other _ another (confirmed name sizes bits budgets tree unit v valid called is) (of_documents is_other) p q = absurd (true≢false (sym (of_ones (Confirm name sizes bits budgets) text other another is_other)))
    one_due _ text _ _ _ _ (confirmed name sizes bits budgets tree unit v valid called is) (confirmed _ _ _ _ tree_too unit_too w valid_too called_too is_other) p q =
        same_status_of v w (told_known bits v w (told_once one_tree text name sizes bits budgets.nodes budgets.steps v w is is_other) p q)
    one_due _ text _ _ _ _ (decided report is) (of_induction name var budgets is_other) p q = absurd is
    one_due _ text _ _ _ _ (refused number at not fault) (of_induction name var budgets is_other) p q = absurd (true≢false not)
    one_due _ text due _ answer _ (of_documents is) (of_induction name var budgets is_other) p q = elim is [ ]
    one_due _ text _ _ _ _ (of_induction name var budgets is) (decided report is_other) p q = absurd is_other
    one_due _ text _ _ _ _ (of_induction name var budgets is) (refused number at not fault) p q = absurd (true≢false not)
    one_due _ text _ _ _ _ (of_induction name var budgets is) (of_documents is_other) p q = elim is_other [ ]
    one_due _ text due other answer another (of_induction name var budgets is) (of_induction _ _ _ is_other) p q = one_induct status.Inducted name var budgets text due other answer another is is_other
    one_due _ text _ _ _ _ (decided report is) (of_formulas bits budgets is_other) p q = absurd is
    one_due _ text _ _ _ _ (refused number at not fault) (of_formulas bits budgets is_other) p q = absurd (true≢false not)
    one_due _ text due _ answer _ (of_documents is) (of_formulas bits budgets is_other) p q = elim is [ ]
    one_due _ text _ _ _ _ (of_formulas bits budgets is) (decided report is_other) p q = absurd is_other
    one_due _ text _ _ _ _ (of_formulas bits budgets is) (refused number at not fault) p q = absurd (true≢false not)
    one_due _ text _ _ _ _ (of_formulas bits budgets is) (of_documents is_other) p q = elim is_other [ ]
    one_due _ text due other answer another (of_formulas bits budgets is) (of_formulas _ _ is_other) p q = one_ltl status.AllFormulas bits budgets text due other answer another is is_other p q

-- ---- all proved is due to `prove` alone

-- a right report by which each unit is true
pub record AllProvedOf (command : Command) (text : List ℕ) : Type 0 where
  pub bits : Bits
  pub nodes : ℕ
  pub steps : ℕ
  pub report : Report
  pub is_right : IsRightReport text bits nodes steps report
  pub all : AllTrueUnits report.units

by_prove : (command : Command) (text : List ℕ) (report : Report) → IsReportFor command (text_for command text) report → proved_by command ≡ status.AllProved → AllTrueUnits report.units → AllProvedOf command text
by_prove (Prove bits budgets) text report is e all = record { bits = bits; nodes = budgets.nodes; steps = budgets.steps; report = report; is_right = is; all = all }
by_prove (Only name bits budgets) text report is e all = absurd (true≢false (sym (ap is_all e)))
by_prove Print text report is e all = absurd is
by_prove (Generated copies) text report is e all = absurd (true≢false (sym (ap is_all e)))
by_prove (Proof budgets) text report is e all = absurd is
by_prove Check text report is e all = absurd is
by_prove (Resume budgets) text report is e all = absurd is
by_prove (Confirm name sizes bits budgets) text report is e all = absurd is
by_prove (Induct name var budgets) text report is e all = absurd is
by_prove (Ltl bits budgets) text report is e all = absurd is

-- all proved is not due to a unit at given sizes
not_all : (v : Verdict) → is_all (confirmed_status v) ≡ false
not_all verdict.True = refl
not_all (verdict.False case elements path) = refl
not_all (verdict.UnknownNodes case count) = refl
not_all (verdict.UnknownSteps case) = refl

-- nor of documents
judged_not : (j : Judgement) → status_by j ≡ status.AllProved → ⊥
judged_not (yes n) e = true≢false (sym (ap is_all e))
judged_not form e = true≢false (sym (ap is_all e))
judged_not (design number at) e = true≢false (sym (ap is_all e))
judged_not (set k) e = true≢false (sym (ap is_all e))

not_of_documents : (command : Command) (text : List ℕ) (due : Status) (answer : List ℕ) → due ≡ status.AllProved → IsDocumentDue command text due answer → ⊥
not_of_documents _ text _ _ e (documented budgets proof is) = true≢false (sym (ap is_all e))
not_of_documents _ text _ _ e (open_report budgets report right unproved) = true≢false (sym (ap is_all (all_proved status.Documented report e).0))
not_of_documents _ text _ _ e (refused_text budgets number at fault) = true≢false (sym (ap is_all e))
not_of_documents _ text _ _ e (too_long_to_check long) = true≢false (sym (ap is_all e))
not_of_documents _ text _ _ e (judged j within is not) = judged_not j e
not_of_documents _ text _ _ e (refused_design proof number at within spells fault) = true≢false (sym (ap is_all e))
not_of_documents _ text _ _ e (too_long_to_resume budgets long) = true≢false (sym (ap is_all e))
not_of_documents _ text _ _ e (not_old budgets within none) = true≢false (sym (ap is_all e))
not_of_documents _ text _ _ e (refused_new budgets old new proof number at within is spells fault) = true≢false (sym (ap is_all e))
not_of_documents _ text _ _ e (resumed budgets old new proof written within is spells is_new) = true≢false (sym (ap is_all e))
not_of_documents _ text _ _ e (open_resumed budgets old new proof report within is spells told unproved) = true≢false (sym (ap is_all (all_proved status.Resumed report e).0))

all_due : (command : Command) (text asked : List ℕ) (due : Status) (answer : List ℕ) → text_for command text ≡ asked → due ≡ status.AllProved → IsDue command asked due answer → AllProvedOf command text
all_due command text asked _ _ same e (decided report is) =
    let all = all_proved (proved_by command) report e in
    by_prove command text report (subst (λ (t : List ℕ). IsReportFor command t report) (sym same) is) all.0 all.1
all_due _ text asked _ _ same e (printed tree is) = absurd (true≢false (sym (ap is_all e)))
all_due command text asked _ _ same e (refused number at not fault) = absurd (true≢false (sym (ap is_all e)))
all_due command text asked due answer same e (of_documents is) = absurd (not_of_documents command asked due answer e is)
all_due _ text asked due answer same e (of_induction name var budgets is) = absurd (true≢false (sym (ap is_all e) ∙ of_statuses is_all refl refl refl status.Inducted refl name var budgets asked due answer is))
all_due _ text asked due answer same e (of_formulas bits budgets is) = absurd (true≢false (sym (ap is_all e) ∙ of_ltl_statuses is_all refl refl refl status.AllFormulas refl bits budgets asked due answer is))
all_due _ text asked _ _ same e (confirmed name sizes bits budgets tree unit v valid called is) = absurd (true≢false (sym (ap is_all e) ∙ not_all v))

pub all_due_to : (command : Option Command) (text answer : List ℕ) → IsDueTo command text status.AllProved answer → (asked : Command) × AllProvedOf asked text
all_due_to None text answer due = absurd (true≢false (ap is_all due.0))
all_due_to (Some command) text answer due = (command, all_due command text (text_for command text) status.AllProved answer refl refl due)
