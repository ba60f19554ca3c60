use Rattle.std.proofs.Common.{◌≡◌, None}
use Rattle.smv_mentions.specs.FirstFault.{first_fault}
use Rattle.law_designs.specs.Flattening.{flatten}
use Rattle.law_designs.specs.WholeText.{TextIsRight}
use Rattle.law_designs.specs.Definitions.{design_of_flat_text}
use Rattle.law_sound_texts.proofs.Faultless.{is_faultless}
use Rattle.law_sound_texts.proofs.SoundDesigns.{design_holds}
use Rattle.law_sound_texts.proofs.sound_texts.sound_texts_are_sound_designs.Goals as goal
use Rattle.law_flat_kinds.proofs.NoFaults.{none-both}

pub returns : goal.returns
returns c = λ text well none sound unit m sizes are run is.
    let named : first_fault text ≡ None = well.3 in
    let right : TextIsRight text = c.expressions_are_right.ensures text (c.spelled_texts_are_written.ensures well.0 well.1 text well.2) named well.4 in
    design_holds text sizes (c.families_are_the_same.ensures text named sizes) (c.families_are_found.ensures text named) (c.definitions_allow_as_the_text.ensures text named right) (is_faultless (design_of_flat_text (flatten text)) none)
    (c.layers_are_same.ensures text named (none-both _ _ none).1) (c.statements_are_the_same.ensures text) (c.left_sides_are_exact.ensures text well) (λ s t states. c.claims_are_the_same.ensures text well sizes s t states)
    (c.runs_of_designs_are_runs_of_texts.ensures text well none) sound are run is unit m
