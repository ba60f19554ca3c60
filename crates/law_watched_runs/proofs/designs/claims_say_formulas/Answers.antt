use Rattle.law_watched_runs.proofs.Transfer.{claims-say}
use Rattle.law_watched_runs.proofs.designs.claims_say_formulas.Goals as goal

pub returns : goal.returns
returns c = claims-say
