use Rattle.law_designs.proofs.Deep.{entries-deep}
use Rattle.law_designs.proofs.depth.entries_are_deep_enough.Goals as goal

pub returns : goal.returns
returns c = entries-deep
