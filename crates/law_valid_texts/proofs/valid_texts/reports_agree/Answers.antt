use Rattle.std.proofs.Common.{◌≡◌, ◌∙◌, ℕ, List, [], ◌∷◌, Some, None, ap, subst, sym}
use Rattle.smv_core.specs.declared.tree.Text.{Text}
use Rattle.smv_bits.specs.declared.Bits.{Bits}
use Rattle.smv_bits.specs.declared.Bits.TheVariants.{Near, Declared}
use Rattle.smv_problem.specs.declared.report.UnitResult.{UnitResult}
use Rattle.law_obligations.specs.Outlines.{Entry}
use Rattle.law_reports.specs.Verdicts.{LeafVerdict, AreOne, AreOneEach}
use Rattle.law_reports.specs.Reports.{IsReportOf, IsToldOf, told, told_of}
use Rattle.law_reports.proofs.Told.{is_told}
use Rattle.law_valid_texts.specs.Reports.{IsReportOfUnit, script_of_tree, unit_named}
use Rattle.law_valid_texts.proofs.valid_texts.reports_agree.Goals as goal

same_pair : (p q : ℕ × Entry) → Some p ≡ Some q → (p.0 ≡ q.0) × (p.1 ≡ q.1)
same_pair p q e =
    let same : p ≡ q = cc in
    (ap (λ (r : ℕ × Entry). r.0) same, ap (λ (r : ℕ × Entry). r.1) same)

single : (bits : Bits) (v w : LeafVerdict) → AreOne bits v w → AreOneEach bits (v ∷ []) (w ∷ [])
single Declared v w one = ap (λ (x : LeafVerdict). x ∷ []) one
single Near v w one = (one, tt)

pub returns-clause-texts : goal.returns-clause-texts
returns-clause-texts c text bits nodes steps report other right other_right =
    let same = c.one_tree.ensures text other_right.0 right.0 other_right.1.is_tree right.1.is_tree in
    c.reports_tell.ensures.one (script_of_tree right.0) bits nodes steps report other right.2 (subst (λ (tree : Text). IsReportOf (script_of_tree tree) bits nodes steps other) same other_right.2)

pub returns-clause-units : goal.returns-clause-units
returns-clause-units c text name bits nodes steps report other (tree, valid, (u, entry, named, is)) (tree2, valid2, (u2, entry2, named2, is2)) =
    let same = c.one_tree.ensures text tree2 tree valid2.is_tree valid.is_tree in
    let named3 : unit_named (script_of_tree tree) name ≡ Some (u2, entry2) = subst (λ (t : Text). unit_named (script_of_tree t) name ≡ Some (u2, entry2)) same named2 in
    let is3 : IsReportOfUnit (script_of_tree tree) bits nodes steps u2 entry2 other = subst (λ (t : Text). IsReportOfUnit (script_of_tree t) bits nodes steps u2 entry2 other) same is2 in
    let both = same_pair (u2, entry2) (u, entry) (sym named3 ∙ named) in
    let place = both.0 in
    let unit = both.1 in
    let told_here = is_told (script_of_tree tree) bits nodes steps u entry is.result.verdict is.is_result.verdict in
    let told_there =
    is_told (script_of_tree tree) bits nodes steps u entry is3.result.verdict
    (subst (λ (k : ℕ). IsToldOf (script_of_tree tree) bits nodes steps k entry is3.result.verdict) place
    (subst (λ (e : Entry). IsToldOf (script_of_tree tree) bits nodes steps u2 e is3.result.verdict) unit is3.is_result.verdict)) in
    let one : AreOne bits (told is.result.verdict) (told is3.result.verdict) = c.one_verdict.ensures.leaves (script_of_tree tree) bits nodes steps u entry (told is.result.verdict) (told is3.result.verdict) told_here told_there in
    subst (λ (rs : List UnitResult). AreOneEach bits (told_of rs) (told_of other.units)) (sym is.units)
    (subst (λ (rs : List UnitResult). AreOneEach bits (told_of (is.result ∷ [])) (told_of rs)) (sym is3.units) (single bits (told is.result.verdict) (told is3.result.verdict) one))

pub returns-clause-either : goal.returns-clause-either
returns-clause-either c text name bits nodes steps report (tree, valid, (u, entry, named, is)) (tree2, valid2, none) =
    let same = c.one_tree.ensures text tree2 tree valid2.is_tree valid.is_tree in
    let none3 : unit_named (script_of_tree tree) name ≡ None = subst (λ (t : Text). unit_named (script_of_tree t) name ≡ None) same none in
    let both = sym none3 ∙ named in
    let bad : ⊥ = cc in
    bad
