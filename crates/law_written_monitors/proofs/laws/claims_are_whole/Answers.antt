use Rattle.law_written_monitors.proofs.Alone.{claims-whole}
use Rattle.law_written_monitors.proofs.laws.claims_are_whole.Goals as goal

pub returns : goal.returns
returns c = claims-whole
