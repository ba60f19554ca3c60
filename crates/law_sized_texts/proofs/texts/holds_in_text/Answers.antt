use Rattle.std.proofs.Common.{◌≡◌, None}
use Rattle.smv_mentions.specs.FirstFault.{first_fault}
use Rattle.law_designs.specs.Flattening.{flatten}
use Rattle.law_designs.specs.WholeText.{TextIsRight}
use Rattle.law_designs.specs.Definitions.{design_of_flat_text}
use Rattle.law_sound_texts.proofs.Faultless.{is_faultless}
use Rattle.law_sound_texts.proofs.SetSizes.{same_sizes}
use Rattle.law_sized_texts.proofs.TextCases.{holds-in-text}
use Rattle.law_sized_texts.proofs.texts.holds_in_text.Goals as goal

pub returns : goal.returns
returns c = λ text right u unit same sizes are none run is_run vs i.
    let well = right.kinds in
    let named : first_fault text ≡ None = well.3 in
    let written : TextIsRight text = c.expressions_are_right.ensures text (c.spelled_texts_are_written.ensures well.0 well.1 text well.2) named well.4 in
    let exact = c.designs_are_exact.ensures text well right.single right.sets sizes (same_sizes text sizes well.4 are) in
    holds-in-text text sizes (c.families_are_the_same.ensures text named sizes) (c.families_are_found.ensures text named) (c.definitions_allow_as_the_text.ensures text named written) (is_faultless (design_of_flat_text (flatten text)) right.design)
    (λ s t states. c.claims_are_the_same.ensures text well sizes s t states) (c.runs_of_texts_are_runs_of_designs.ensures text well right.design) (c.runs_of_designs_are_runs_of_texts.ensures text well right.design) exact u unit same none run is_run vs i
