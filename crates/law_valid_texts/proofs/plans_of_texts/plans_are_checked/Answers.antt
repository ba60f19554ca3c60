use Rattle.std.proofs.Common.{refl, subst, sym}
use Rattle.law_obligations.specs.Checked.{IsChecked}
use Rattle.law_obligations.specs.Scripts.{HaveValues}
use Rattle.law_valid_texts.specs.Joined.{flat_design, script_with}
use Rattle.law_valid_texts.proofs.Plans.{is_script}
use Rattle.law_valid_texts.proofs.plans_of_texts.plans_are_checked.Goals as goal

pub returns-clause-checked : goal.returns-clause-checked
returns-clause-checked c tree faultless plan is =
    let passes = c.faultless_texts_pass.ensures tree faultless in
    let ready = c.well_kinded_are_ready.ensures tree passes.kinds in
    let splits = c.leaves_are_split.ensures.split (flat_design tree) ready.0 passes.splits plan.choices in
    subst IsChecked (sym (is_script tree plan is)) (c.scripts_are_checked.ensures tree passes.kinds passes.single (script_with tree plan.choices) refl splits)

pub returns-clause-values : goal.returns-clause-values
returns-clause-values c tree faultless plan is = subst HaveValues (sym is.design) (c.well_kinded_are_ready.ensures tree faultless.kinds).1
