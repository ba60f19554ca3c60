use Rattle.smv_conditions.proofs.AddLaws.{made_pushed, offers_kept}
use Rattle.smv_sides.proofs.ChoiceLaws.{chosen_one}
use Rattle.smv_sides.proofs.choices.add_place.Goals as goal

pub returns-clause-possible_made : goal.returns-clause-possible_made
returns-clause-possible_made g c = made_pushed _ _ _ _ c.in_ok-push.ensures.items (offers_kept _ _ _ _ _ _ c.in_ok-met.ensures.keeps c.requires.possible_made) c.in_ok-met.ensures.made.may

pub returns-clause-certain_made : goal.returns-clause-certain_made
returns-clause-certain_made g c = made_pushed _ _ _ _ c.in_ok-push-2.ensures.items (offers_kept _ _ _ _ _ _ c.in_ok-met.ensures.keeps c.requires.certain_made) c.in_ok-met.ensures.made.must

pub returns-clause-possible : goal.returns-clause-possible
returns-clause-possible g c v h = chosen_one _ _ _ _ _ v _ _ _ _ _ _ _ _ _ _ c.in_ok-inner.ensures c.as_slice.ensures.value c.in_ok-push.ensures.items c.in_ok-met.ensures.keeps c.requires.possible_made (c.in_ok-met.ensures.is v h).may

pub returns-clause-certain : goal.returns-clause-certain
returns-clause-certain g c v h = chosen_one _ _ _ _ _ v _ _ _ _ _ _ _ _ _ _ c.in_ok-inner.ensures c.as_slice.ensures.value c.in_ok-push-2.ensures.items c.in_ok-met.ensures.keeps c.requires.certain_made (c.in_ok-met.ensures.is v h).must
