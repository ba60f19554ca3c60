use Rattle.law_obligations.proofs.Least.{reached_is_least}
use Rattle.law_obligations.proofs.obligations.reached_is_least.Goals as goal

pub returns : goal.returns
returns g c same equal itself next every from within closed = reached_is_least same equal itself next every from within closed
