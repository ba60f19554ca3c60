use Rattle.smv_conditions.proofs.OfferLaws.{first_made}
use Rattle.smv_outcome_lists.proofs.OrderLaws.{none_possible, more_possible}
use Rattle.smv_outcome_lists.proofs.orders.+some_of.Goals as goal

pub returns-in_default-clause-holds : goal.returns-in_default-clause-holds
returns-in_default-clause-holds g t c a = none_possible _ a _ _ _ c.in_default.ensures.cases (c.constant.ensures.holds a)

pub returns-clause-holds : goal.returns-clause-holds
returns-clause-holds g t c a = let k = c.in-Some.ensures.cases in
    more_possible _ a _ _ _ _ _ _ _ _ k.0 (c.in_ok-rest.ensures.keeps.same _ (first_made _ _ _ _ k.0 c.requires.made) a) (c.in_ok-rest.ensures.holds a) (c.in_ok-c.ensures.holds a)
