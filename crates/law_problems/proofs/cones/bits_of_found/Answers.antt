use Rattle.law_problems.proofs.Orders.{no_more_bits}
use Rattle.law_problems.proofs.cones.bits_of_found.Goals as goal

pub returns : goal.returns
returns c w found all apart there = no_more_bits w found all apart there
