use Rattle.law_fault_places.proofs.NameFaults.{first-within}
use Rattle.law_fault_places.proofs.names.name_faults_are_within.Goals as goal

pub returns : goal.returns
returns c = λ n text h. first-within n text h
