use Rattle.law_concrete.proofs.Found.{found}
use Rattle.law_concrete.proofs.paths.paths_are_of_runs.Goals as goal

pub returns : goal.returns
returns c = λ d sizes exact choose unit values are path violates. found d sizes exact unit values are choose path violates
