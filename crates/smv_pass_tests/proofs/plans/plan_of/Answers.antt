use Rattle.std.proofs.Common.{ap, sym, ◌∙◌}
use Rattle.law_obligations.specs.Units.{units_of}
use Rattle.smv_pass_tests.proofs.plans.plan_of.Goals as goal

pub read_plan-requires : goal.read_plan-requires
read_plan-requires c = let spelled = c.in_ok-tree.ensures.tree in (64, spelled.0, spelled.2)

pub returns : goal.returns
returns c = let is = c.in_ok-plan.ensures.plan in is.units ∙ ap units_of (sym is.design)
