use Rattle.law_units.specs.LeafInstances.{IsLeafIn}
use Rattle.law_valid_texts.specs.Joined.{flat_design}
use Rattle.law_right_reports.proofs.texts.units_of_valid_texts.Goals as goal

pub returns-clause-units : goal.returns-clause-units
returns-clause-units c = λ text tree valid. let passes = c.valid_texts_pass.ensures text tree valid in c.units_are_the_same.ensures.units tree passes.kinds passes.design

pub returns-clause-names : goal.returns-clause-names
returns-clause-names c = λ text tree valid. let passes = c.valid_texts_pass.ensures text tree valid in c.units_are_the_same.ensures.names tree passes.kinds passes.design

pub returns-clause-leaves : goal.returns-clause-leaves
returns-clause-leaves c = λ text tree valid unit leaf h.
    let passes = c.valid_texts_pass.ensures text tree valid in
    let pair : IsLeafIn (flat_design tree) unit leaf = record { is_read = (c.well_kinded_are_ready.ensures tree passes.kinds).0; no_fault = passes.splits; are_paired = h } in
    (c.units_hold_by_leaves.ensures.always (flat_design tree) unit leaf pair, c.units_hold_by_leaves.ensures.back (flat_design tree) unit leaf pair)
