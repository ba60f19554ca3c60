use Rattle.std.proofs.Common.{◌≡◌, None, map}
use Rattle.smv_mentions.specs.FirstFault.{first_fault}
use Rattle.law_designs.specs.Flattening.{flatten}
use Rattle.law_designs.specs.WholeText.{TextIsRight}
use Rattle.law_designs.specs.Definitions.{design_of_flat_text}
use Rattle.law_sound_texts.proofs.Faultless.{is_faultless}
use Rattle.law_sound_texts.proofs.Texts.{to_text, text_run}
use Rattle.law_sound_texts.proofs.CarriedRuns.{same_texts}
use Rattle.law_sound_texts.proofs.sound_texts.runs_of_designs_are_runs_of_texts.Goals as goal
use Rattle.law_flat_kinds.proofs.NoFaults.{none-both}

pub returns : goal.returns
returns c = λ text well none sizes run some is.
    let named : first_fault text ≡ None = well.3 in
    let right : TextIsRight text = c.expressions_are_right.ensures text (c.spelled_texts_are_written.ensures well.0 well.1 text well.2) named well.4 in
    let families = c.families_are_the_same.ensures text named sizes in
    let found = c.families_are_found.ensures text named in (
      map (to_text text sizes families found) run,
      same_texts text sizes families found run,
      text_run text sizes families found (c.definitions_allow_as_the_text.ensures text named right) (is_faultless (design_of_flat_text (flatten text)) none) (c.layers_are_same.ensures text named (none-both _ _ none).1)
          (c.what_has_no_definition_is_free.ensures (flatten text)) (λ x h e before fore b s t states. c.allowed_values_are_the_same.ensures text well sizes None x h e before fore b s t states) run some is,
    )
