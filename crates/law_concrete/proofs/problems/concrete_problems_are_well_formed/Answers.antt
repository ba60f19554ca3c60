use Rattle.law_concrete.proofs.Formed.{well-formed}
use Rattle.law_concrete.proofs.problems.concrete_problems_are_well_formed.Goals as goal

pub returns : goal.returns
returns c = λ d sizes exact fit apart few unit classes h bits. well-formed d sizes exact fit apart few unit classes h bits
