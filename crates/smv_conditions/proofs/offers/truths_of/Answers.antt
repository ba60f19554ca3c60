use Rattle.smv_conditions.proofs.OfferLaws.{among_held}
use Rattle.smv_conditions.proofs.offers.truths_of.Goals as goal

pub returns-in_ok-z-in-Values-clause-mix : goal.returns-in_ok-z-in-Values-clause-mix
returns-in_ok-z-in-Values-clause-mix g c n a = among_held n _ a _ _ _ _ _ _ c.in-Values.is c.as_slice.ensures (c.in_ok-z-in-Values.ensures.mix n a)
