use Rattle.law_bounds.proofs.BoundLaws.{bounds_hold}
use Rattle.law_bounds.proofs.laws.bounds_hold.Goals as goal

pub returns : goal.returns
returns c = bounds_hold
