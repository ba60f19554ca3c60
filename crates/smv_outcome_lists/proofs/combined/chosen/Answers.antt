use Rattle.smv_conditions.proofs.AddLaws.{offers_kept}
use Rattle.smv_outcome_lists.proofs.PairLaws.{branches_added, no_offer}
use Rattle.smv_outcome_lists.proofs.combined.chosen.Goals as goal

pub add_all-requires-clause-offers_made : goal.add_all-requires-clause-offers_made
add_all-requires-clause-offers_made g c = offers_kept _ _ _ _ _ _ c.in_ok-add_offer.ensures.keeps c.requires.yes_made

pub add_all-requires-2-clause-offers_made : goal.add_all-requires-2-clause-offers_made
add_all-requires-2-clause-offers_made g c = offers_kept _ _ _ _ _ _ c.in_ok-add_all.ensures.keeps (offers_kept _ _ _ _ _ _ c.in_ok-add_offer.ensures.keeps c.requires.no_made)

pub returns-clause-any : goal.returns-clause-any
returns-clause-any g c n p a =
    branches_added n _ _ _ a _ _ _ _ p _ _ _ _ _ _ _ _ (no_offer n _ _ a p _ c.new-offers.ensures.items) c.in_ok-add_offer.ensures.keeps c.in_ok-add_all.ensures.keeps c.requires.x_made c.requires.yes_made c.requires.no_made (c.constant-always.ensures.holds a)
    (c.in_ok-add_offer.ensures.adds n p a) (c.in_ok-add_all.ensures.adds n p a) (c.in_ok-add_all-2.ensures.adds n p a)
