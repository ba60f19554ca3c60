use Rattle.law_concrete.proofs.Shown.{shown}
use Rattle.law_concrete.proofs.paths.runs_are_shown.Goals as goal

pub returns : goal.returns
returns c = λ d sizes exact unit values are run breaks. shown d sizes exact unit values are run breaks
