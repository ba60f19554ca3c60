use Rattle.std.proofs.Common.{◌∙◌, ap, subst}
use Rattle.std.specs.Prelude.{List, length}
use Rattle.smv_core.specs.declared.flat.Design.{Design}
use Rattle.smv_core.specs.declared.flat.Unit.{Unit}
use Rattle.law_obligations.specs.Units.{units_of}
use Rattle.law_obligations.specs.Checked.{IsProved}
use Rattle.law_splits.specs.Leaves.{leaves_of}
use Rattle.law_valid_texts.specs.Joined.{flat_design}
use Rattle.law_valid_texts.proofs.Plans.{is_script}
use Rattle.law_valid_texts.proofs.plans_of_texts.proved_plans_are_sound.Goals as goal

pub returns : goal.returns
returns c tree faultless plan is proved =
    let passes = c.faultless_texts_pass.ensures tree faultless in
    let ready = c.well_kinded_are_ready.ensures tree passes.kinds in
    c.proved_texts_are_sound.ensures tree passes.kinds passes.single passes.design (record {
      leaves = leaves_of (flat_design tree);
      choices = plan.choices;
      each_has_a_leaf = c.leaves_are_split.ensures.each (flat_design tree);
      each_has_a_choice = is.choices ∙ (ap (λ (units : List Unit). length units) is.units ∙ ap (λ (d : Design). length (units_of d)) is.design);
      has_splits = c.leaves_are_split.ensures.split (flat_design tree) ready.0 passes.splits plan.choices;
      is_proved = subst IsProved (is_script tree plan is) proved;
    })
