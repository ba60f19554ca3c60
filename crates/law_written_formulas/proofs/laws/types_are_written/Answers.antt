use Rattle.law_written_formulas.proofs.Definitions.{types-written}
use Rattle.law_written_formulas.proofs.laws.types_are_written.Goals as goal

pub returns : goal.returns
returns c = types-written
