use Rattle.law_fresh_monitors.proofs.Plans.{plans}
use Rattle.law_fresh_monitors.proofs.laws.plans_are_named.Goals as goal

pub returns : goal.returns
returns c = plans
