use Rattle.law_watched_runs.proofs.Extending.{extend}
use Rattle.law_watched_runs.proofs.designs.runs_extend.Goals as goal

pub returns : goal.returns
returns c = extend
