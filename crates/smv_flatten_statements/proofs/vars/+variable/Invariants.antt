use Rattle.std.proofs.Common.{length}
use Rattle.smv_flatten_statements.proofs.vars.+variable.Given as goal

abbrev pub decreases-variable : goal.decreases-variable
decreases-variable l = length l.vars.now
