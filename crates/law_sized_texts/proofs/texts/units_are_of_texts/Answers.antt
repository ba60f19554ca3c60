use Rattle.std.proofs.Common.{◌≡◌, Option, Some, None}
use Rattle.smv_core.specs.declared.fault.Fault.{Fault}
use Rattle.smv_core.specs.Values.{Sizes}
use Rattle.smv_mentions.specs.FirstFault.{first_fault, or_else}
use Rattle.law_designs.specs.Flattening.{flatten}
use Rattle.law_designs.specs.WholeText.{TextIsRight}
use Rattle.law_designs.specs.Definitions.{design_of_flat_text}
use Rattle.law_sound_texts.proofs.Faultless.{is_faultless}
use Rattle.law_sized_texts.proofs.TextUnits.{its-unit}
use Rattle.law_sized_texts.proofs.texts.units_are_of_texts.Goals as goal

layers-none : (o p : Option Fault) → or_else o p ≡ None → p ≡ None
layers-none None p e = e
layers-none (Some f) p e = absurd (cc (e))

pub returns : goal.returns
returns c = λ text right unit m.
    let well = right.kinds in
    let named : first_fault text ≡ None = well.3 in
    let written : TextIsRight text = c.expressions_are_right.ensures text (c.spelled_texts_are_written.ensures well.0 well.1 text well.2) named well.4 in
    let sizes : Sizes = λ name. 1 in
    its-unit text sizes (c.families_are_the_same.ensures text named sizes) (c.families_are_found.ensures text named) (c.definitions_allow_as_the_text.ensures text named written) (is_faultless (design_of_flat_text (flatten text)) right.design)
    (c.layers_are_same.ensures text named (layers-none _ _ right.design)) (c.statements_are_the_same.ensures text) (c.left_sides_are_exact.ensures text well) (λ s t states. c.claims_are_the_same.ensures text well sizes s t states) unit m
