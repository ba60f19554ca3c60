use Rattle.smv_conditions.proofs.OfferLaws.{first_made}
use Rattle.smv_outcome_lists.proofs.PairLaws.{none_compared, more_compared}
use Rattle.smv_outcome_lists.proofs.pairs.+compared_each.Goals as goal

pub returns-in_default-clause-mix : goal.returns-in_default-clause-mix
returns-in_default-clause-mix g t c w h a = none_compared w.classes _ a _ _ _ _ _ _ c.in_default.ensures.cases (c.none.ensures.mix a)

pub returns-clause-mix : goal.returns-clause-mix
returns-clause-mix g t c w h a = let k = c.in-Some.ensures.cases in
    more_compared w.classes _ a _ _ _ _ _ _ _ _ _ _ _ k.0 (c.compared-answers.ensures w h) (c.in_ok-x.ensures.mix w h a) (c.in_ok-x.ensures.keeps.same _ (first_made _ _ _ _ k.0 c.requires.made) a) (c.in_ok-z.ensures.mix a)
