use Rattle.smv_targets.proofs.TargetLaws.{no_table, one_place, table_pushed, spots_pushed}
use Rattle.smv_targets.proofs.cell_targets.+table_of.Goals as goal

pub returns-in_default-clause-holds : goal.returns-in_default-clause-holds
returns-in_default-clause-holds g t c w h = no_table w.classes g.S.Conditions.holds c.args.s.now c.args.offers.now _ c.new.ensures.items

pub returns-clause-made : goal.returns-clause-made
returns-clause-made g t c = table_pushed _ _ _ _ _ _ _ _ c.in_ok-when.ensures.keeps c.in_ok-push.ensures.items c.in_ok-table.ensures.made c.in_ok-when.ensures.made

pub returns-clause-spots : goal.returns-clause-spots
returns-clause-spots g t c = let k = c.in-Some.ensures.cases in spots_pushed _ _ _ _ _ c.in_ok-push.ensures.items c.in_ok-table.ensures.spots k.0

pub returns-clause-holds : goal.returns-clause-holds
returns-clause-holds g t c w h = one_place w.classes _ _ _ _ _ _ _ _ _ _ c.in_ok-push.ensures.items c.in_ok-table.ensures.keeps c.in_ok-when.ensures.keeps c.requires.offers_made c.in_ok-table.ensures.made (c.in_ok-table.ensures.holds w h) (c.in_ok-when.ensures.holds w h)
