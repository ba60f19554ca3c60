use Rattle.smv_conditions.proofs.AddLaws.{offers_kept}
use Rattle.smv_conditions.proofs.MergeLaws.{adds_both}
use Rattle.smv_conditions.proofs.lists.add_offer.Goals as goal

pub merge-requires-clause-out_made : goal.merge-requires-clause-out_made
merge-requires-clause-out_made g c = offers_kept _ _ _ _ _ _ c.in_ok-both.ensures.keeps c.requires.out_made

pub returns-clause-adds : goal.returns-clause-adds
returns-clause-adds g c n p a = adds_both n _ _ _ a p _ _ _ _ _ _ _ _ _ c.in_ok-both.ensures.keeps c.requires.out_made (c.in_ok-both.ensures.holds a) (c.in_ok-merge.ensures.adds n p a)
