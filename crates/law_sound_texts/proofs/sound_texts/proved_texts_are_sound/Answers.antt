use Rattle.std.proofs.Common.{refl}
use Rattle.smv_core.specs.declared.flat.Design.{Design}
use Rattle.law_designs.specs.Flattening.{flatten}
use Rattle.law_designs.specs.Definitions.{design_of_flat_text}
use Rattle.law_obligations.specs.Outlines.{Script}
use Rattle.law_obligations.specs.Units.{script_of}
use Rattle.law_sound_texts.proofs.sound_texts.proved_texts_are_sound.Goals as goal

pub returns : goal.returns
returns c = λ text well single none proof.
    let d : Design = design_of_flat_text (flatten text) in
    let s : Script = script_of d proof.leaves proof.choices in
    c.sound_designs_are_sound_texts.ensures text well none (c.proved_is_sound.ensures.designs d proof.leaves proof.choices proof.each_has_a_leaf proof.each_has_a_choice (c.scripts_are_checked.ensures text well single s refl proof.has_splits) proof.is_proved)
