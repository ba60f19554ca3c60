use Rattle.std.proofs.Common.{◌≡◌, None}
use Rattle.smv_mentions.specs.FirstFault.{first_fault}
use Rattle.law_designs.specs.Flattening.{flatten}
use Rattle.law_designs.specs.WholeText.{TextIsRight}
use Rattle.law_designs.specs.Definitions.{design_of_flat_text}
use Rattle.law_sound_texts.specs.Extension.{KeepsBehaviours}
use Rattle.law_sound_texts.proofs.Faultless.{is_faultless}
use Rattle.law_sound_texts.proofs.Texts.{keeps_text}
use Rattle.law_sound_texts.proofs.extension.text_behaviours_are_kept.Goals as goal

pub returns : goal.returns
returns c = λ text well none whole layers sizes behaviour is.
    let named : first_fault text ≡ None = well.3 in
    let right : TextIsRight text = c.expressions_are_right.ensures text (c.spelled_texts_are_written.ensures well.0 well.1 text well.2) named well.4 in
    let keeps : KeepsBehaviours (design_of_flat_text (flatten text)) = c.behaviours_are_kept.ensures (design_of_flat_text (flatten text)) none (c.left_sides_stay_whole.ensures (flatten text) whole) in
    keeps_text text sizes (c.families_are_the_same.ensures text named sizes) (c.families_are_found.ensures text named) (c.definitions_allow_as_the_text.ensures text named right) (is_faultless (design_of_flat_text (flatten text)) none) layers
    (c.what_has_no_definition_is_free.ensures (flatten text))
    (λ x h e before fore b s t states. c.allowed_values_are_the_same.ensures text well sizes None x h e before fore b s t states) keeps behaviour is
