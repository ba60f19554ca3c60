use Rattle.smv_conditions.proofs.AddLaws.{adds_truths, adds_values}
use Rattle.std.proofs.Common.{◌∙◌}
use Rattle.smv_conditions.proofs.lists.add_may.Goals as goal

pub returns-in_ok-add_all-in-Values-clause-adds : goal.returns-in_ok-add_all-in-Values-clause-adds
returns-in_ok-add_all-in-Values-clause-adds g c n p a = adds_values n _ a p _ _ _ _ _ _ _ _ c.in-Values.is c.as_slice-in-Values.ensures (c.in_ok-add_all-in-Values.ensures.adds n p a)

pub returns-in_ok-add_all-in-Truths-clause-adds : goal.returns-in_ok-add_all-in-Truths-clause-adds
returns-in_ok-add_all-in-Truths-clause-adds g c n p a = adds_truths n _ a p _ _ _ _ _ _ _ _ c.in-Truths.is (c.as_slice.ensures.value ∙ c.in_ok-offers-in-Truths.ensures) (c.in_ok-add_all-in-Truths.ensures.adds n p a)
