use Rattle.law_designs.specs.Flattening.{flatten}
use Rattle.law_designs.specs.Definitions.{design_of_flat_text}
use Rattle.law_sound_texts.proofs.Faultless.{is_faultless}
use Rattle.law_units.proofs.TextUnits.{none_of_both, units_same, names_same}
use Rattle.law_units.proofs.units_of_texts.units_are_the_same.Goals as goal

pub returns-clause-units : goal.returns-clause-units
returns-clause-units c = λ text well none.
    units_same text (c.families_are_found.ensures text well.3) (c.layers_are_same.ensures text well.3 (none_of_both _ _ none)) (is_faultless (design_of_flat_text (flatten text)) none) (c.left_sides_are_exact.ensures text well)

pub returns-clause-names : goal.returns-clause-names
returns-clause-names c = λ text well none.
    names_same text (c.families_are_found.ensures text well.3) (c.layers_are_same.ensures text well.3 (none_of_both _ _ none)) (is_faultless (design_of_flat_text (flatten text)) none) (c.left_sides_are_exact.ensures text well)
