use Rattle.law_designs.proofs.Deep.{met-deep}
use Rattle.law_designs.proofs.depth.met_is_deep_enough.Goals as goal

pub returns : goal.returns
returns c = met-deep
