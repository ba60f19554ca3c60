use Rattle.law_fresh_monitors.proofs.FreeNames.{free}
use Rattle.law_fresh_monitors.proofs.laws.free_names_are_free.Goals as goal

pub returns : goal.returns
returns c = free
