use Rattle.law_watched_runs.proofs.Along.{formulas}
use Rattle.law_watched_runs.proofs.runs.claims_give_formulas.Goals as goal

pub returns : goal.returns
returns c = formulas
