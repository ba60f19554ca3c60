use Rattle.law_obligations.proofs.Codes.{bits_are}
use Rattle.law_obligations.proofs.readings.bits_are_least.Goals as goal

pub returns : goal.returns
returns c n = bits_are n
