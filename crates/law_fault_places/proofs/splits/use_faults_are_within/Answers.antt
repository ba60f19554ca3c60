use Rattle.law_fault_places.proofs.Uses.{first-within}
use Rattle.law_fault_places.proofs.splits.use_faults_are_within.Goals as goal

pub returns : goal.returns
returns c = λ n d h. first-within n d h
