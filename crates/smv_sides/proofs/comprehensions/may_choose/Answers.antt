use Rattle.smv_cells.proofs.SeenLaws.{keeps_trans, cells_kept}
use Rattle.smv_targets.proofs.GivenLaws.{target_kept}
use Rattle.smv_outcomes.proofs.KnownLaws.{known_kept}
use Rattle.smv_sides.proofs.OutcomeLaws.{shown_made, shown_kept}
use Rattle.smv_sides.proofs.ChoiceLaws.{chooses_may}
use Rattle.smv_sides.proofs.comprehensions.may_choose.Goals as goal

pub none_offered-requires : goal.none_offered-requires
none_offered-requires g c = record { offers_made = shown_made _ _ _ c.as_slice.ensures c.in_ok-choices.ensures.made.named }

pub also_given-requires-clause-target_made : goal.also_given-requires-clause-target_made
also_given-requires-clause-target_made g c = target_kept _ _ _ _ _ _ (keeps_trans _ _ _ _ _ _ c.in_ok-choices.ensures.keeps c.in_ok-none.ensures.keeps) c.requires.target_made

pub also_given-requires-clause-offers_made : goal.also_given-requires-clause-offers_made
also_given-requires-clause-offers_made g c = shown_kept _ _ _ _ _ _ _ c.as_slice-possible.ensures c.in_ok-none.ensures.keeps c.in_ok-choices.ensures.made.possible

pub returns-clause-cells : goal.returns-clause-cells
returns-clause-cells g c = cells_kept _ _ _ _ _ _ (keeps_trans _ _ _ _ _ _ c.in_ok-none.ensures.keeps c.in_ok-r.ensures.keeps) c.in_ok-choices.ensures.cells

pub returns-clause-is : goal.returns-clause-is
returns-clause-is g c at = chooses_may _ _ _ _ _ _ _ _ _ _ _ _ _ at _ _ _ _ _ _ c.as_slice-possible.ensures c.as_slice.ensures c.in_ok-choices.ensures.keeps c.in_ok-none.ensures.keeps c.requires.target_made c.in_ok-choices.ensures.made.possible c.in_ok-choices.ensures.are c.in_ok-none.ensures.holds c.in_ok-r.ensures.holds

pub returns-clause-known : goal.returns-clause-known
returns-clause-known g c = known_kept _ _ _ _ _ _ _ _ (keeps_trans _ _ _ _ _ _ c.in_ok-none.ensures.keeps c.in_ok-r.ensures.keeps) c.in_ok-choices.ensures.cells c.in_ok-choices.ensures.known
