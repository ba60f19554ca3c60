use Rattle.smv_walks.proofs.PartLaws.{whole_of_it}
use Rattle.smv_walks.proofs.walks.gists_of.Goals as goal

pub returns-clause-is : goal.returns-clause-is
returns-clause-is g c = whole_of_it _ _ _ _ _ _ _ _ _ _ _ c.in_ok-o.ensures.is c.or_nothing-g.ensures.gist
