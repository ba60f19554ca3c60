use Rattle.std.proofs.Common.{refl}
use Rattle.law_splits.specs.Leaves.{leaves_of}
use Rattle.law_valid_texts.specs.Joined.{flat_design, script_with}
use Rattle.law_valid_texts.proofs.true_reports.true_texts_are_sound.Goals as goal

pub returns : goal.returns
returns c = λ text passes choices each bits nodes images verdicts are all.
    let ready = c.well_kinded_are_ready.ensures text passes.kinds in
    let splits = c.leaves_are_split.ensures.split (flat_design text) ready.0 passes.splits choices in
    let checked = c.scripts_are_checked.ensures text passes.kinds passes.single (script_with text choices) refl splits in
    c.proved_texts_are_sound.ensures text passes.kinds passes.single passes.design (record {
      leaves = leaves_of (flat_design text);
      choices = choices;
      each_has_a_leaf = c.leaves_are_split.ensures.each (flat_design text);
      each_has_a_choice = each;
      has_splits = splits;
      is_proved = c.true_scripts_are_sound.ensures.proved (script_with text choices) checked ready.1 bits nodes images verdicts are all;
    })
