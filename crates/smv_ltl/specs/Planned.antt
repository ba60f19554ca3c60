-- The plan that the code has.
use Rattle.std.specs.Prelude.{ℕ, List, map}
use Rattle.law_formulas.specs.Monitors as monitors
use Rattle.smv_ltl.specs.declared.plan.Plan.{Plan}
use Rattle.smv_ltl.specs.Plans.{entry_of}

abbrev pub plan_of : Plan → List (ℕ × monitors.Watched)
plan_of plan = map entry_of plan.entries.items
