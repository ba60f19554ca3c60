use Rattle.law_designs.proofs.Deep.{placed-deep}
use Rattle.law_designs.proofs.depth.placed_families_are_deep_enough.Goals as goal

pub returns : goal.returns
returns c = placed-deep
