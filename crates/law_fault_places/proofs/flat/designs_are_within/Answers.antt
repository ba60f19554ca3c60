use Rattle.law_fault_places.proofs.DesignLaws.{design-within}
use Rattle.law_fault_places.proofs.flat.designs_are_within.Goals as goal

pub returns : goal.returns
returns c = λ n flat_text h. design-within n flat_text h
