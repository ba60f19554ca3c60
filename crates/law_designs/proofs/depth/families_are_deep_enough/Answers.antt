use Rattle.law_designs.proofs.Deep.{families-deep}
use Rattle.law_designs.proofs.depth.families_are_deep_enough.Goals as goal

pub returns : goal.returns
returns c = families-deep
