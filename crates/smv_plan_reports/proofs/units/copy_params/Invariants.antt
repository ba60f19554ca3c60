use Rattle.std.proofs.Common.{◌≡◌, ◌++◌, drop}
use Rattle.smv_plan_reports.proofs.units.copy_params.Given as goal

abbrev pub invariant-loop-param : goal.invariant-loop-param
invariant-loop-param l = l.copies ++ drop l.param-index l.params ≡ l.params
