use Rattle.law_splits.proofs.Equations as equations
use Rattle.law_splits.proofs.leaves.equations_keep_outcomes.Goals as goal

pub returns : goal.returns
returns c n s split e numbered none own values stand = equations.equations_keep_outcomes n s split e numbered none own values stand
