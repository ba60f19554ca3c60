use Rattle.law_written_formulas.proofs.Claims.{claims-written}
use Rattle.law_written_formulas.proofs.laws.claims_are_written.Goals as goal

pub returns : goal.returns
returns c = claims-written
