use Rattle.law_written_formulas.proofs.Definitions.{monitors-defined}
use Rattle.law_written_formulas.proofs.laws.monitors_are_defined.Goals as goal

pub returns : goal.returns
returns c = monitors-defined
