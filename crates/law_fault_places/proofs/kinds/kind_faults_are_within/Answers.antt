use Rattle.law_fault_places.proofs.KindFaults.{first-within}
use Rattle.law_fault_places.proofs.kinds.kind_faults_are_within.Goals as goal

pub returns : goal.returns
returns c = λ n text h. first-within n text h
