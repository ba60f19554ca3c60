use Rattle.law_fault_places.proofs.Refusals.{fault-within}
use Rattle.law_fault_places.proofs.texts.faults_are_within.Goals as goal

pub returns : goal.returns
returns c = λ command text number at fault. fault-within c.one_answer.ensures.within c.trees_of_texts_are_within.ensures c.pass_faults_are_within.ensures c.flattened_texts_are_within.ensures c.designs_are_within.ensures command text number at fault
