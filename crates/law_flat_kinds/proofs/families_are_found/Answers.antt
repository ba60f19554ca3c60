use Rattle.law_flat_kinds.proofs.FamiliesFound.{families_found}
use Rattle.law_flat_kinds.proofs.families_are_found.Goals as goal

pub returns : goal.returns
returns c = λ text none. families_found text none
