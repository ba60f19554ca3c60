use Rattle.smv_conditions.proofs.AddLaws.{offers_kept}
use Rattle.smv_outcome_lists.proofs.OrderLaws.{crossed_given}
use Rattle.smv_outcome_lists.proofs.orders.crossed.Goals as goal

pub returns-clause-mix : goal.returns-clause-mix
returns-clause-mix g c w h a =
    crossed_given _ w h _ _ _ a _ _ _ _ _ _ _ _ _ _ _ _ _ _ _ _ _ c.apart-answers.ensures c.requires.apart c.requires.vs_made c.requires.x_made c.in_ok-some_left.ensures.keeps c.in_ok-some_right.ensures.keeps c.in_ok-when.ensures.keeps c.in_ok-some_left.ensures.made
    (c.in_ok-some_left.ensures.holds a) (c.in_ok-some_right.ensures.holds a) (c.in_ok-when.ensures.holds a) (c.in_ok-z.ensures.mix a)

pub some_of-requires-2 : goal.some_of-requires-2
some_of-requires-2 g c = record { made = offers_kept _ _ _ _ _ _ c.in_ok-some_left.ensures.keeps c.requires.vs_made }
