use Rattle.law_problems.proofs.Bits.{found-bits, cone-bits}
use Rattle.law_problems.proofs.found_elements.bits_of_cones.Goals as goal

pub returns-clause-each : goal.returns-clause-each
returns-clause-each c w found = found-bits w found

pub returns-clause-all : goal.returns-clause-all
returns-clause-all c w o entry params indexed found apart all = cone-bits w o entry params indexed found apart all
