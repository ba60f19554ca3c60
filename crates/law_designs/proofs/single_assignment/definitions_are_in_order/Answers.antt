use Rattle.law_designs.proofs.InOrder.{in_order}
use Rattle.law_designs.proofs.single_assignment.definitions_are_in_order.Goals as goal

pub returns : goal.returns
returns c = λ flat_text. in_order flat_text
