use Rattle.law_fault_places.proofs.Sets.{first-within}
use Rattle.law_fault_places.proofs.designs.set_faults_are_within.Goals as goal

pub returns : goal.returns
returns c = λ n flat_text h. first-within n flat_text h
