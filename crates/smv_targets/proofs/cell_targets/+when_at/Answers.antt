use Rattle.smv_conditions.proofs.AddLaws.{offers_kept}
use Rattle.smv_targets.proofs.TargetLaws.{at_none, at_first, at_others}
use Rattle.smv_targets.proofs.cell_targets.+when_at.Goals as goal

pub returns-in_default-clause-holds : goal.returns-in_default-clause-holds
returns-in_default-clause-holds g t c w h a = at_none w.classes _ _ _ _ _ a c.in_default.ensures.cases (c.constant.ensures.holds a)

pub returns-then-is_there-clause-holds : goal.returns-then-is_there-clause-holds
returns-then-is_there-clause-holds g t c w h a =
    let k = c.in-Some.ensures.cases in
    at_first w.classes _ _ _ _ _ _ _ _ _ _ _ _ _ a k.0 c.in_ok-more.ensures.keeps c.requires.offers_made (c.is_there.ensures w h) c.if-is_there.true (c.in_ok-more.ensures.holds w h a) (c.in_ok-r.ensures.holds a)

pub returns-clause-holds : goal.returns-clause-holds
returns-clause-holds g t c w h a =
    let k = c.in-Some.ensures.cases in
    at_others w.classes _ _ _ _ _ _ _ _ _ a k.0 (c.is_there.ensures w h) c.if-is_there.false (c.in_ok-more.ensures.holds w h a)

pub returns-then-is_there-clause-offers : goal.returns-then-is_there-clause-offers
returns-then-is_there-clause-offers g t c = offers_kept _ _ _ _ _ _ c.in_ok-r.ensures.keeps (offers_kept _ _ _ _ _ _ c.in_ok-more.ensures.keeps c.requires.offers_made)

pub returns-clause-offers : goal.returns-clause-offers
returns-clause-offers g t c = offers_kept _ _ _ _ _ _ c.in_ok-more.ensures.keeps c.requires.offers_made
