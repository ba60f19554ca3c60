use Rattle.law_designs.proofs.Apart.{apart}
use Rattle.law_designs.proofs.single_assignment.definitions_are_apart.Goals as goal

pub returns : goal.returns
returns c = λ flat_text. apart flat_text
