use Rattle.std.proofs.Common.{◌≡◌, None}
use Rattle.smv_mentions.specs.FirstFault.{first_fault}
use Rattle.law_designs.specs.Flattening.{flatten}
use Rattle.law_designs.specs.WholeText.{TextIsRight}
use Rattle.law_designs.specs.Definitions.{design_of_flat_text}
use Rattle.law_sound_texts.proofs.Faultless.{is_faultless}
use Rattle.law_sound_texts.proofs.SetSizes.{same_sizes}
use Rattle.law_sound_texts.proofs.SoundTexts.{units_hold}
use Rattle.law_sound_texts.proofs.sound_texts.sound_designs_are_sound_texts.Goals as goal

pub returns : goal.returns
returns c = λ text well none hold sizes are run is.
    let named : first_fault text ≡ None = well.3 in
    let right : TextIsRight text = c.expressions_are_right.ensures text (c.spelled_texts_are_written.ensures well.0 well.1 text well.2) named well.4 in
    let flat_run = c.runs_of_texts_are_runs_of_designs.ensures text well none sizes run is in
    units_hold text sizes (c.families_are_the_same.ensures text named sizes) (c.families_are_found.ensures text named) (c.definitions_allow_as_the_text.ensures text named right) (is_faultless (design_of_flat_text (flatten text)) none)
    (c.what_has_no_definition_is_free.ensures (flatten text)) (λ layer x h e before fore b s t states. c.allowed_values_are_the_same.ensures text well sizes layer x h e before fore b s t states)
    (λ s t states. c.claims_are_the_same.ensures text well sizes s t states) hold (same_sizes text sizes well.4 are) run flat_run.0 flat_run.1 is flat_run.2
