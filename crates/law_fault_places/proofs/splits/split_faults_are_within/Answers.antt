use Rattle.law_fault_places.proofs.SplitLaws.{first-within}
use Rattle.law_fault_places.proofs.splits.split_faults_are_within.Goals as goal

pub returns : goal.returns
returns c = λ n d h. first-within n d h
