use Rattle.smv_targets.proofs.OfferedLaws.{others_all}
use Rattle.smv_targets.proofs.offered.other_of.Goals as goal

pub returns-then-not-is_offered-clause-holds : goal.returns-then-not-is_offered-clause-holds
returns-then-not-is_offered-clause-holds g c w world a = others_all w.classes _ _ a _ _ _ _ (c.is_offered.ensures w world) c.if-not-is_offered.true (c.requires.some_is w.classes a)
