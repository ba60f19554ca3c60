use Rattle.law_fresh_monitors.proofs.Alone.{alone}
use Rattle.law_fresh_monitors.proofs.laws.monitors_are_alone.Goals as goal

pub returns : goal.returns
returns c = alone
