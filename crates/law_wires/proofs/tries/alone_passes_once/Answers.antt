use Rattle.law_wires.proofs.Tests.{once}
use Rattle.law_wires.proofs.tries.alone_passes_once.Goals as goal

pub returns : goal.returns
returns X c test xs some alone = once test xs some alone
