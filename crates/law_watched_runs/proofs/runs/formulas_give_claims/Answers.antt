use Rattle.law_watched_runs.proofs.Along.{claims}
use Rattle.law_watched_runs.proofs.runs.formulas_give_claims.Goals as goal

pub returns : goal.returns
returns c = claims
