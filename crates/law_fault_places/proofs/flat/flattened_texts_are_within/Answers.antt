use Rattle.law_fault_places.proofs.Items.{flatten-within}
use Rattle.law_fault_places.proofs.flat.flattened_texts_are_within.Goals as goal

pub returns : goal.returns
returns c = λ n text h. flatten-within n text h
