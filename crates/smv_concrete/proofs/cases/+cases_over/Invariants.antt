use Rattle.std.proofs.Common.{length}
use Rattle.smv_concrete.proofs.cases.+cases_over.Given as goal

abbrev pub decreases-cases_over : goal.decreases-cases_over
decreases-cases_over l = length l.params.now
