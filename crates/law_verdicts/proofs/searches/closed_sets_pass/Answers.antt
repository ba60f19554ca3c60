use Rattle.law_verdicts.proofs.Closed.{closed_pass}
use Rattle.law_verdicts.proofs.searches.closed_sets_pass.Goals as goal

pub returns : goal.returns
returns c = closed_pass
