use Rattle.smv_walks.proofs.GatherLaws.{none_first}
use Rattle.smv_walks.proofs.passed.first_of_some.Goals as goal

pub returns-in_default-clause-gist : goal.returns-in_default-clause-gist
returns-in_default-clause-gist g c a = none_first _ _ a _ c.in_default.ensures.cases
