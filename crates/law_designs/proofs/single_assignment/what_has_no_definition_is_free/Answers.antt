use Rattle.law_designs.proofs.Undefined.{free-without}
use Rattle.law_designs.proofs.single_assignment.what_has_no_definition_is_free.Goals as goal

pub returns : goal.returns
returns c = λ flat_text sizes layer x e every before now. free-without flat_text sizes layer x every e before now
