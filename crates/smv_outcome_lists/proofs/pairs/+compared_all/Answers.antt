use Rattle.smv_conditions.proofs.AddLaws.{offers_kept}
use Rattle.smv_outcome_lists.proofs.PairLaws.{none_compared_all, more_compared_all}
use Rattle.smv_outcome_lists.proofs.pairs.+compared_all.Goals as goal

pub returns-in_default-clause-mix : goal.returns-in_default-clause-mix
returns-in_default-clause-mix g t c w h a = none_compared_all w.classes _ a _ _ _ _ _ _ c.in_default.ensures.cases (c.none.ensures.mix a)

pub returns-clause-mix : goal.returns-clause-mix
returns-clause-mix g t c w h a = let k = c.in-Some.ensures.cases in
    more_compared_all w.classes _ _ _ a _ _ _ _ _ _ _ _ _ _ _ _ k.0 c.in_ok-x.ensures.keeps c.in_ok-y.ensures.keeps c.requires.us_made c.requires.vs_made c.in_ok-x.ensures.made (c.in_ok-x.ensures.mix w h a) (c.in_ok-y.ensures.mix w h a) (c.in_ok-z.ensures.mix a)

pub compared_each-requires : goal.compared_each-requires
compared_each-requires g t c = record { made = offers_kept _ _ _ _ _ _ c.in_ok-x.ensures.keeps c.requires.vs_made }
