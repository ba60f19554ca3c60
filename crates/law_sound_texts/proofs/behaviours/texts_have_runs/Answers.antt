use Rattle.std.proofs.Common.{◌≡◌, ◌<◌, None, List, length, map, sym, subst, ◌∙◌}
use Rattle.std.proofs.lemmas.List.{length-map}
use Rattle.smv_core.specs.FlatMeaning.{FlatState}
use Rattle.smv_core.specs.declared.flat.Design.{Design}
use Rattle.smv_mentions.specs.FirstFault.{first_fault}
use Rattle.law_designs.specs.Flattening.{flatten}
use Rattle.law_designs.specs.WholeText.{TextIsRight}
use Rattle.law_designs.specs.Definitions.{design_of_flat_text}
use Rattle.law_obligations.specs.Soundness.{at_sizes, IsRun}
use Rattle.law_obligations.specs.Outlines.{bases, names_of}
use Rattle.law_sound_texts.proofs.Faultless.{is_faultless}
use Rattle.law_sound_texts.proofs.Texts.{to_text, text_run}
use Rattle.law_sound_texts.proofs.SetSizes.{same_sizes}
use Rattle.law_sound_texts.proofs.behaviours.texts_have_runs.Goals as goal
use Rattle.law_flat_kinds.proofs.NoFaults.{none-both}

pub returns : goal.returns
returns c = λ text well none sizes are times some.
    let named : first_fault text ≡ None = well.3 in
    let d : Design = design_of_flat_text (flatten text) in
    let right : TextIsRight text = c.expressions_are_right.ensures text (c.spelled_texts_are_written.ensures well.0 well.1 text well.2) named well.4 in
    let families = c.families_are_the_same.ensures text named sizes in
    let found = c.families_are_found.ensures text named in
    let run : (run : List FlatState) × (length run ≡ times) × IsRun (at_sizes (names_of d) sizes) (bases d) run =
    c.runs_exist.ensures d none (c.left_sides_stay_whole.ensures (flatten text) (c.left_sides_have_no_fewer.ensures text well)) (c.families_are_filled.ensures (flatten text) (c.flattened_texts_are_kinded.ensures text well)) sizes (same_sizes text sizes well.4 are) times in (
      map (to_text text sizes families found) run.0,
      length-map run.0 (to_text text sizes families found) ∙ run.1,
      text_run text sizes families found (c.definitions_allow_as_the_text.ensures text named right) (is_faultless d none) (c.layers_are_same.ensures text named (none-both _ _ none).1)
          (c.what_has_no_definition_is_free.ensures (flatten text)) (λ x h e before fore b s t states. c.allowed_values_are_the_same.ensures text well sizes None x h e before fore b s t states)
          run.0 (subst (λ k. 0 < k) (sym run.1) some) run.2,
    )
