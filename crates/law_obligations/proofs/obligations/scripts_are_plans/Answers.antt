use Rattle.law_obligations.proofs.Plans.{is_plan}
use Rattle.law_obligations.proofs.obligations.scripts_are_plans.Goals as goal

pub returns : goal.returns
returns c s checked = is_plan s checked
