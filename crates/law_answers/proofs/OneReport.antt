-- Where no unit is false, two right reports are one.
use Rattle.std.proofs.Common.{◌≡◌, ◌∙◌, ℕ, false, List, [], ◌∷◌, sym, ap, subst}
use Rattle.std.specs.List.{list_any}
use Rattle.law_lists.proofs.Options.{some_is}
use Rattle.smv_core.specs.declared.tree.Text.{Text}
use Rattle.smv_bits.specs.declared.Bits.{Bits}
use Rattle.law_obligations.specs.Outlines.{Entry, Script}
use Rattle.smv_problem.specs.declared.report.Report.{Report}
use Rattle.law_reports.specs.Reports.{AreResultsFrom, told_of}
use Rattle.smv_command.specs.declared.commands.Command.{Command}
use Rattle.smv_command.specs.declared.commands.Command.TheVariants.{Prove, Only, Print, Generated, Proof, Check, Resume, Confirm, Induct, Ltl}
use Rattle.law_valid_texts.specs.Reports.{IsReportOfUnit, IsUnitReport, script_of_tree, unit_named}
use Rattle.law_valid_texts.specs.Laws.{OneTree, OneReport, OneUnitReport}
use Rattle.law_ltl_answers.proofs.Open.{told_equal}
use Rattle.law_ltl_answers.proofs.Reports.{results_are, right_is}
use Rattle.smv_command.specs.declared.exit.Status.TheVariants.{AllProved, PartProved, Generated as all_generated}
use Rattle.law_answers.specs.Dues.{IsReportFor, bits_of, default_bits, default_nodes, default_steps, is_false, proved_by, status_of}
use Rattle.law_answers.specs.Laws.{is_open}

-- ---- results

module _ (s : Script) (bits : Bits) (nodes images : ℕ) where
  unit_is : (u : ℕ) (entry : Entry) (r q : Report) → IsReportOfUnit s bits nodes images u entry r → IsReportOfUnit s bits nodes images u entry q → told_of r.units ≡ told_of q.units → list_any (λ u. is_false u.verdict) r.units ≡ false → r ≡ q
  unit_is u entry r q is is_too tells f =
      let designs : r.design ≡ q.design = is.design ∙ sym is_too.design in
      let units = results_are s bits nodes images u (entry ∷ []) r.units q.units
      (subst (AreResultsFrom s bits nodes images u (entry ∷ [])) (sym is.units) (is.is_result, tt))
      (subst (AreResultsFrom s bits nodes images u (entry ∷ [])) (sym is_too.units) (is_too.is_result, tt)) tells f in
      λ i. record { design = designs i; units = units i }

-- ---- reports of texts

module _ (one_tree : OneTree) where
  -- reports of one unit of two trees that are one
  unit_report_is : (text name : List ℕ) (bits : Bits) (nodes steps : ℕ) (r q : Report) → IsUnitReport text name bits nodes steps r → IsUnitReport text name bits nodes steps q → told_of r.units ≡ told_of q.units → list_any (λ u. is_false u.verdict) r.units ≡ false → r ≡ q
  unit_report_is text name bits nodes steps r q (tree, valid, (u, entry, named, is)) (other, valid_too, (v, entry_too, named_too, is_too)) tells f =
      let same = one_tree text tree other valid.is_tree valid_too.is_tree in
      let found = sym (ap (λ (t : Text). unit_named (script_of_tree t) name) same) ∙ named in
      let one : (u, entry) ≡ (v, entry_too) = some_is (sym found ∙ named_too) in
      unit_is (script_of_tree other) bits nodes steps v entry_too r q
      (subst (λ (p : ℕ × Entry). IsReportOfUnit (script_of_tree other) bits nodes steps p.0 p.1 r) one (subst (λ (t : Text). IsReportOfUnit (script_of_tree t) bits nodes steps u entry r) same is))
      is_too tells f

  module _ (one_report : OneReport) (one_unit : OneUnitReport) where
    pub one_for : (command : Command) (text : List ℕ) (r q : Report) → IsReportFor command text r → IsReportFor command text q →
        is_open (bits_of command) (status_of (proved_by command) r) ≡ false → is_open (bits_of command) (status_of (proved_by command) q) ≡ false → list_any (λ u. is_false u.verdict) r.units ≡ false → r ≡ q
    one_for (Prove bits budgets) text r q is is_too o p f =
        right_is one_tree text bits budgets.nodes budgets.steps r q is is_too (told_equal bits AllProved r q (one_report text bits budgets.nodes budgets.steps r q is is_too) o p f) f
    one_for (Only name bits budgets) text r q is is_too o p f =
        unit_report_is text name bits budgets.nodes budgets.steps r q is is_too (told_equal bits PartProved r q (one_unit text name bits budgets.nodes budgets.steps r q is is_too) o p f) f
    one_for Print text r q is is_too o p f = absurd is
    one_for (Generated copies) text r q is is_too o p f =
        right_is one_tree text default_bits default_nodes default_steps r q is is_too (told_equal default_bits all_generated r q (one_report text default_bits default_nodes default_steps r q is is_too) o p f) f
    one_for (Proof budgets) text r q is is_too o p f = absurd is
    one_for Check text r q is is_too o p f = absurd is
    one_for (Resume budgets) text r q is is_too o p f = absurd is
    one_for (Confirm name sizes bits budgets) text r q is is_too o p f = absurd is
    one_for (Induct name var budgets) text r q is is_too o p f = absurd is
    one_for (Ltl bits budgets) text r q is is_too o p f = absurd is
