use Rattle.smv_cells.proofs.SeenLaws.{seen_on}
use Rattle.smv_sides.proofs.ChoiceLaws.{chosen_none, chosen_join}
use Rattle.smv_sides.proofs.choices.+add_chosen.Goals as goal

pub returns-in_default-clause-possible : goal.returns-in_default-clause-possible
returns-in_default-clause-possible g t c v h = chosen_none g.S.Conditions.IsMade _ g.S.Conditions.room _ v _ _ _ _ _ _ c.in_default.ensures.cases

pub returns-in_default-clause-certain : goal.returns-in_default-clause-certain
returns-in_default-clause-certain g t c v h = chosen_none g.S.Conditions.IsMade _ g.S.Conditions.room _ v _ _ _ _ _ _ c.in_default.ensures.cases

pub returns-clause-possible : goal.returns-clause-possible
returns-clause-possible g t c v h = chosen_join g.S.Conditions.IsMade _ g.S.Conditions.room _ _ _ v _ _ _ _ _ _ _ _ _ _ c.in-Some.ensures.cases.0 (c.in_ok-add_place.ensures.possible v h) (c.in_ok-add_chosen.ensures.possible v (seen_on _ _ _ _ _ _ _ v c.in_ok-add_place.ensures.keeps c.requires.cells_made h))

pub returns-clause-certain : goal.returns-clause-certain
returns-clause-certain g t c v h = chosen_join g.S.Conditions.IsMade _ g.S.Conditions.room _ _ _ v _ _ _ _ _ _ _ _ _ _ c.in-Some.ensures.cases.0 (c.in_ok-add_place.ensures.certain v h) (c.in_ok-add_chosen.ensures.certain v (seen_on _ _ _ _ _ _ _ v c.in_ok-add_place.ensures.keeps c.requires.cells_made h))
