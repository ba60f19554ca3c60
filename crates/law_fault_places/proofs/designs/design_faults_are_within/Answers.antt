use Rattle.law_fault_places.proofs.Loops.{first-within}
use Rattle.law_fault_places.proofs.designs.design_faults_are_within.Goals as goal

pub returns : goal.returns
returns c = λ n d h. first-within n d h
