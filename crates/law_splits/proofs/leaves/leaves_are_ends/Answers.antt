use Rattle.law_splits.proofs.Ends as ends
use Rattle.law_splits.proofs.leaves.leaves_are_ends.Goals as goal

pub returns : goal.returns
returns c d apart leaf h s k e = ends.leaves_are_ends d apart leaf h s k e
