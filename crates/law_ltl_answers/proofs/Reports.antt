-- Where no unit is false, two right reports are one.
use Rattle.std.proofs.Common.{◌≡◌, ◌∙◌, ℕ, suc, false, List, [], ◌∷◌, refl, sym, ap₂, subst}
use Rattle.std.specs.List.{list_any}
use Rattle.std.proofs.lemmas.Bool.{or_parts}
use Rattle.law_lists.proofs.Lists.{head_is, tail_is}
use Rattle.smv_core.specs.declared.tree.Text.{Text}
use Rattle.smv_bits.specs.declared.Bits.{Bits}
use Rattle.law_obligations.specs.Outlines.{Entry, Script}
use Rattle.smv_problem.specs.declared.report.UnitResult.{UnitResult}
use Rattle.smv_problem.specs.declared.report.Report.{Report}
use Rattle.law_reports.specs.Reports.{IsReportOf, IsResultOf, AreResultsFrom, told, told_of}
use Rattle.law_valid_texts.specs.Reports.{IsRightReport, script_of_tree}
use Rattle.law_valid_texts.specs.Laws.{OneTree}
use Rattle.law_document_answers.proofs.Verdicts.{verdict_is}
use Rattle.law_document_answers.specs.Statuses.{is_false}

-- ---- results

module _ (s : Script) (bits : Bits) (nodes images : ℕ) where
  result_is : (u : ℕ) (entry : Entry) (r q : UnitResult) → IsResultOf s bits nodes images u entry r → IsResultOf s bits nodes images u entry q → told r.verdict ≡ told q.verdict → is_false r.verdict ≡ false → r ≡ q
  result_is u entry r q is is_too tells f =
      let names : r.name ≡ q.name = is.name ∙ sym is_too.name in
      let params : r.params ≡ q.params = is.params ∙ sym is_too.params in
      let verdicts = verdict_is r.verdict q.verdict tells f in
      λ i. record { name = names i; params = params i; verdict = verdicts i }

  pub results_are : (u : ℕ) (entries : List Entry) (rs qs : List UnitResult) → AreResultsFrom s bits nodes images u entries rs → AreResultsFrom s bits nodes images u entries qs → told_of rs ≡ told_of qs → list_any (λ r. is_false r.verdict) rs ≡ false → rs ≡ qs
  results_are u [] [] [] is is_too tells f = refl
  results_are u [] [] (q ∷ qs) is is_too tells f = absurd is_too
  results_are u [] (r ∷ rs) qs is is_too tells f = absurd is
  results_are u (entry ∷ entries) [] qs is is_too tells f = absurd is
  results_are u (entry ∷ entries) (r ∷ rs) [] is is_too tells f = absurd is_too
  results_are u (entry ∷ entries) (r ∷ rs) (q ∷ qs) is is_too tells f =
      let none = or_parts (is_false r.verdict) (list_any (λ r. is_false r.verdict) rs) f in
      ap₂ (λ (x : UnitResult) (xs : List UnitResult). x ∷ xs) (result_is u entry r q is.0 is_too.0 (head_is tells) none.0)
      (results_are (suc u) entries rs qs is.1 is_too.1 (tail_is tells) none.1)

  report_is : (r q : Report) → IsReportOf s bits nodes images r → IsReportOf s bits nodes images q → told_of r.units ≡ told_of q.units → list_any (λ u. is_false u.verdict) r.units ≡ false → r ≡ q
  report_is r q is is_too tells f =
      let designs : r.design ≡ q.design = is.design ∙ sym is_too.design in
      let units = results_are 0 s.entries r.units q.units is.units is_too.units tells f in
      λ i. record { design = designs i; units = units i }

-- ---- reports of texts

module _ (one_tree : OneTree) where
  pub right_is : (text : List ℕ) (bits : Bits) (nodes steps : ℕ) (r q : Report) → IsRightReport text bits nodes steps r → IsRightReport text bits nodes steps q → told_of r.units ≡ told_of q.units → list_any (λ u. is_false u.verdict) r.units ≡ false → r ≡ q
  right_is text bits nodes steps r q (tree, valid, is) (other, valid_too, is_too) tells f =
      let same = one_tree text tree other valid.is_tree valid_too.is_tree in
      report_is (script_of_tree other) bits nodes steps r q (subst (λ (t : Text). IsReportOf (script_of_tree t) bits nodes steps r) same is) is_too tells f
