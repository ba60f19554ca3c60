use Rattle.smv_walk_parts.proofs.LeftLaws.{no_left, no_index, one_is, others_are}
use Rattle.smv_walk_parts.proofs.lefts.+is_elsewhere.Goals as goal

pub returns-in_default : goal.returns-in_default
returns-in_default t c w h = no_left w _ _ _ c.in_default.ensures.cases

pub returns-in_default-split_first : goal.returns-in_default-split_first
returns-in_default-split_first t c w h = no_index w _ _ _ c.in_default-split_first.ensures.cases

pub returns-then-is_other : goal.returns-then-is_other
returns-then-is_other t c w h =
    let k = c.in-Some.ensures.cases in
    let l = c.in-Some-split_first.ensures.cases in
    one_is w _ _ _ _ _ _ _ _ _ k.0 l.0 (c.known.ensures w h) (c.is_other.ensures w h) c.if-is_other.true

pub returns : goal.returns
returns t c w h =
    let k = c.in-Some.ensures.cases in
    let l = c.in-Some-split_first.ensures.cases in
    others_are w _ _ _ _ _ _ _ _ _ k.0 l.0 (c.known.ensures w h) (c.is_other.ensures w h) _ c.if-is_other.false (c.is_elsewhere.ensures w h)
