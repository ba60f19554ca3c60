use Rattle.law_watched_runs.proofs.Extended.{bases-same}
use Rattle.law_watched_runs.proofs.designs.bases_are_same.Goals as goal

pub returns : goal.returns
returns c = bases-same
