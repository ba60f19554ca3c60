use Rattle.smv_cells.proofs.SeenLaws.{keeps_trans, cells_kept}
use Rattle.smv_targets.proofs.GivenLaws.{target_kept}
use Rattle.smv_outcomes.proofs.KnownLaws.{known_kept}
use Rattle.smv_sides.proofs.OutcomeLaws.{only_is, shown_made, shown_kept}
use Rattle.smv_sides.proofs.outcomes.only_outcome.Goals as goal

pub some_given-requires-clause-target_made : goal.some_given-requires-clause-target_made
some_given-requires-clause-target_made g c = target_kept _ _ _ _ _ _ c.in_ok-offers.ensures.keeps c.requires.target_made

pub some_given-requires-clause-offers_made : goal.some_given-requires-clause-offers_made
some_given-requires-clause-offers_made g c = shown_made _ _ _ c.as_slice-all.ensures.value c.in_ok-offers.ensures.made

pub several_of-requires : goal.several_of-requires
several_of-requires g c = record { offers_made = shown_kept _ _ _ _ _ _ _ c.as_slice-all.ensures.value c.in_ok-sure.ensures.keeps c.in_ok-offers.ensures.made }

pub returns-clause-keeps : goal.returns-clause-keeps
returns-clause-keeps g c = keeps_trans _ _ _ _ _ _ (keeps_trans _ _ _ _ _ _ (keeps_trans _ _ _ _ _ _ (keeps_trans _ _ _ _ _ _ c.in_ok-offers.ensures.keeps c.in_ok-sure.ensures.keeps) c.in_ok-several.ensures.keeps) c.in_ok-one.ensures.keeps) c.in_ok-r.ensures.keeps

pub returns-clause-cells : goal.returns-clause-cells
returns-clause-cells g c = cells_kept _ _ _ _ _ _ (keeps_trans _ _ _ _ _ _ (keeps_trans _ _ _ _ _ _ (keeps_trans _ _ _ _ _ _ c.in_ok-sure.ensures.keeps c.in_ok-several.ensures.keeps) c.in_ok-one.ensures.keeps) c.in_ok-r.ensures.keeps) c.in_ok-offers.ensures.cells

pub returns-clause-target : goal.returns-clause-target
returns-clause-target g c = target_kept _ _ _ _ _ _ (keeps_trans _ _ _ _ _ _ (keeps_trans _ _ _ _ _ _ c.in_ok-several.ensures.keeps c.in_ok-one.ensures.keeps) c.in_ok-r.ensures.keeps) c.in_ok-sure.ensures.target

pub returns-clause-is : goal.returns-clause-is
returns-clause-is g c = only_is _ _ _ _ _ _ _ _ _ _ _ _ _ _ _ _ _ _ _ _ _ c.as_slice-all.ensures.value c.as_slice-all.ensures.value c.in_ok-offers.ensures.keeps c.in_ok-sure.ensures.keeps c.in_ok-several.ensures.keeps c.in_ok-one.ensures.keeps c.requires.target_made c.in_ok-offers.ensures.made c.in_ok-sure.ensures.made
    c.in_ok-offers.ensures.are c.in_ok-sure.ensures.holds c.in_ok-several.ensures.two c.in_ok-one.ensures.holds c.in_ok-r.ensures.holds

pub returns-clause-known : goal.returns-clause-known
returns-clause-known g c = known_kept _ _ _ _ _ _ _ _ (keeps_trans _ _ _ _ _ _ (keeps_trans _ _ _ _ _ _ (keeps_trans _ _ _ _ _ _ c.in_ok-sure.ensures.keeps c.in_ok-several.ensures.keeps) c.in_ok-one.ensures.keeps) c.in_ok-r.ensures.keeps) c.in_ok-offers.ensures.cells c.in_ok-offers.ensures.known
