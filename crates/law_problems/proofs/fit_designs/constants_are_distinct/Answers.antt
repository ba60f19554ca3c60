use Rattle.law_problems.proofs.Constants.{constants_are_distinct}
use Rattle.law_problems.proofs.fit_designs.constants_are_distinct.Goals as goal

pub returns : goal.returns
returns c = constants_are_distinct
