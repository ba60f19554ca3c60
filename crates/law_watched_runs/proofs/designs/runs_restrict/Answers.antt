use Rattle.law_watched_runs.proofs.Extended.{restrict}
use Rattle.law_watched_runs.proofs.designs.runs_restrict.Goals as goal

pub returns : goal.returns
returns c = restrict
