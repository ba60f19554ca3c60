use Rattle.smv_walks.proofs.StepLaws.{now_gives_it}
use Rattle.smv_walks.proofs.given.now_gives.Goals as goal

pub returns-clause-is : goal.returns-clause-is
returns-clause-is g c = now_gives_it _ _ _ _ _ _ _ _ _ _ c.everything-open.ensures.is c.in_ok-r.ensures.is
