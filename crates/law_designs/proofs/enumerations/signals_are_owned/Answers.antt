use Rattle.law_designs.proofs.Signals.{signals-owned}
use Rattle.law_designs.proofs.enumerations.signals_are_owned.Goals as goal

pub returns : goal.returns
returns c = λ text names. signals-owned text names
