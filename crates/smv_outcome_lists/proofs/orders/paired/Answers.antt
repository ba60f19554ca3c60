use Rattle.smv_outcome_lists.proofs.OrderLaws.{paired_given}
use Rattle.smv_outcome_lists.proofs.orders.paired.Goals as goal

pub returns-clause-mix : goal.returns-clause-mix
returns-clause-mix g c w h a = paired_given w.classes _ _ _ a _ _ _ _ _ _ _ _ _ c.in_ok-y.ensures.keeps c.requires.x_made (c.in_ok-y.ensures.mix w h a) (c.in_ok-z.ensures.mix a)
