use Rattle.std.proofs.Common.{◌≡◌, None}
use Rattle.smv_mentions.specs.FirstFault.{first_fault}
use Rattle.law_designs.specs.Flattening.{flatten}
use Rattle.law_designs.specs.WholeText.{TextIsRight}
use Rattle.law_designs.specs.Definitions.{design_of_flat_text}
use Rattle.law_sound_texts.proofs.Faultless.{is_faultless}
use Rattle.law_sound_texts.proofs.CarriedRuns.{carried_run}
use Rattle.law_sound_texts.proofs.sound_texts.runs_of_texts_are_runs_of_designs.Goals as goal
use Rattle.law_flat_kinds.proofs.NoFaults.{none-both}

pub returns : goal.returns
returns c = λ text well none sizes run is.
    let named : first_fault text ≡ None = well.3 in
    let right : TextIsRight text = c.expressions_are_right.ensures text (c.spelled_texts_are_written.ensures well.0 well.1 text well.2) named well.4 in
    carried_run text sizes (c.families_are_the_same.ensures text named sizes) (c.families_are_found.ensures text named) (c.definitions_allow_as_the_text.ensures text named right) (is_faultless (design_of_flat_text (flatten text)) none)
    (c.layers_are_same.ensures text named (none-both _ _ none).1) run is
