use Rattle.law_written_formulas.proofs.Claims.{definitions-written}
use Rattle.law_written_formulas.proofs.laws.definitions_are_written.Goals as goal

pub returns : goal.returns
returns c = definitions-written
