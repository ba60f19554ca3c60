use Rattle.smv_walks.proofs.DemandLaws.{none_passes, one_passes, others_pass}
use Rattle.smv_walks.proofs.demands.+some_may_be_it.Goals as goal

pub returns-in_default-clause-holds : goal.returns-in_default-clause-holds
returns-in_default-clause-holds g t c w h a = none_passes w.classes g.S.Conditions.IsMade _ g.S.Conditions.room _ _ _ _ a c.in_default.ensures.cases (c.constant.ensures.holds a)

pub returns-then-may_be_it-clause-holds : goal.returns-then-may_be_it-clause-holds
returns-then-may_be_it-clause-holds g t c w h a =
    let k = c.in-Some.ensures.cases in
    one_passes w.classes _ _ _ _ _ _ _ _ _ _ _ _ _ a k.0 c.in_ok-more.ensures.keeps c.requires.offers_made (c.may_be_it.ensures w h) c.if-may_be_it.true (c.in_ok-more.ensures.holds w h a) (c.in_ok-r.ensures.holds a)

pub returns-clause-holds : goal.returns-clause-holds
returns-clause-holds g t c w h a =
    let k = c.in-Some.ensures.cases in
    others_pass w.classes g.S.Conditions.IsMade _ g.S.Conditions.room _ _ _ _ _ _ _ _ a k.0 (c.may_be_it.ensures w h) c.if-may_be_it.false (c.in_ok-more.ensures.holds w h a)
