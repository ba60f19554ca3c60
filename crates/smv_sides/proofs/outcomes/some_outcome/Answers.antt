use Rattle.smv_cells.proofs.SeenLaws.{cells_kept}
use Rattle.smv_targets.proofs.GivenLaws.{target_kept}
use Rattle.smv_outcomes.proofs.KnownLaws.{known_kept}
use Rattle.smv_sides.proofs.OutcomeLaws.{some_is, shown_made}
use Rattle.smv_sides.proofs.outcomes.some_outcome.Goals as goal

pub some_given-requires-clause-target_made : goal.some_given-requires-clause-target_made
some_given-requires-clause-target_made g c = target_kept _ _ _ _ _ _ c.in_ok-offers.ensures.keeps c.requires.target_made

pub some_given-requires-clause-offers_made : goal.some_given-requires-clause-offers_made
some_given-requires-clause-offers_made g c = shown_made _ _ _ c.as_slice.ensures.value c.in_ok-offers.ensures.made

pub returns-clause-cells : goal.returns-clause-cells
returns-clause-cells g c = cells_kept _ _ _ _ _ _ c.in_ok-r.ensures.keeps c.in_ok-offers.ensures.cells

pub returns-clause-is : goal.returns-clause-is
returns-clause-is g c = some_is _ _ _ _ _ _ _ _ _ _ _ _ _ _ _ c.as_slice.ensures.value c.in_ok-offers.ensures.keeps c.requires.target_made c.in_ok-offers.ensures.are c.in_ok-r.ensures.holds

pub returns-clause-known : goal.returns-clause-known
returns-clause-known g c = known_kept _ _ _ _ _ _ _ _ c.in_ok-r.ensures.keeps c.in_ok-offers.ensures.cells c.in_ok-offers.ensures.known
