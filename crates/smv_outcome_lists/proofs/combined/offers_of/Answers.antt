use Rattle.smv_outcome_lists.proofs.PairLaws.{from_nothing}
use Rattle.smv_outcome_lists.proofs.combined.offers_of.Goals as goal

pub returns-clause-same : goal.returns-clause-same
returns-clause-same g c n p a = from_nothing n g.S.Conditions.IsMade _ g.S.Conditions.room a _ _ p _ _ _ _ c.new-offers.ensures.items (c.constant-always.ensures.holds a) (c.in_ok-add_may.ensures.adds n p a)
