use Rattle.smv_conditions.proofs.OfferLaws.{among_more, first_made}
use Rattle.smv_conditions.proofs.offers.+truths_among.Goals as goal

pub returns-clause-mix : goal.returns-clause-mix
returns-clause-mix g t c n a =
    let w = c.in-Some.ensures.cases in
    among_more n _ a _ _ _ _ _ _ _ _ _ w.0 (c.seen_as-truth.ensures n) (c.in_ok-x.ensures.mix n a) (c.in_ok-x.ensures.keeps.same _ (first_made _ _ _ _ w.0 c.requires.made) a) (c.in_ok-z.ensures.mix a)
