use Rattle.std.proofs.Common.{◌≡◌, refl, sym, ap, subst, ◌∙◌, Some, slice_get, arith}
use Rattle.law_uses.specs.Choices.{choices_of}
use Rattle.law_reports.specs.Reports.{IsResultOf}
use Rattle.law_valid_texts.specs.Joined.{flat_design}
use Rattle.law_valid_texts.specs.Reports.{script_of_tree}
use Rattle.law_right_reports.proofs.Named.{found_at, some_is}
use Rattle.law_right_reports.proofs.reports.true_units_have_invariants.Goals as goal

pub returns-clause-reports : goal.returns-clause-reports
returns-clause-reports c = λ text tree valid bits nodes steps report right u entry e r at is classes h.
    let passes = c.valid_texts_pass.ensures text tree valid in
    let ready = c.well_kinded_are_ready.ensures tree passes.kinds in
    let splits = c.leaves_are_split.ensures.split (flat_design tree) ready.0 passes.splits (choices_of (flat_design tree)) in
    let checked = c.scripts_are_checked.ensures tree passes.kinds passes.single (script_of_tree tree) refl splits in
    c.true_verdicts_have_invariants.ensures.reports (script_of_tree tree) checked ready.1 bits nodes steps report right u entry e r at is classes h

pub returns-clause-alone : goal.returns-clause-alone
returns-clause-alone c = λ text name tree valid bits nodes steps u entry e report right r at is classes h.
    let passes = c.valid_texts_pass.ensures text tree valid in
    let ready = c.well_kinded_are_ready.ensures tree passes.kinds in
    let splits = c.leaves_are_split.ensures.split (flat_design tree) ready.0 passes.splits (choices_of (flat_design tree)) in
    let checked = c.scripts_are_checked.ensures tree passes.kinds passes.single (script_of_tree tree) refl splits in
    let place = found_at (script_of_tree tree) name 0 u entry (script_of_tree tree).entries e in
    let there : slice_get (script_of_tree tree).entries u ≡ Some entry = subst (λ k. slice_get (script_of_tree tree).entries k ≡ Some entry) (let p = place.1 in omega (arith, p)) place.2 in
    let one : right.result ≡ r = some_is (sym (ap (λ rs. slice_get rs 0) right.units) ∙ at) in
    c.true_verdicts_have_invariants.ensures.units (script_of_tree tree) checked ready.1 bits nodes steps u entry there r (subst (λ r. IsResultOf (script_of_tree tree) bits nodes steps u entry r) one right.is_result) is classes h
