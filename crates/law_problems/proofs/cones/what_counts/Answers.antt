use Rattle.law_problems.proofs.Counting.{uncounted}
use Rattle.law_problems.proofs.cones.what_counts.Goals as goal

pub returns : goal.returns
returns c every places counts read part b e = uncounted every places counts read part b e
