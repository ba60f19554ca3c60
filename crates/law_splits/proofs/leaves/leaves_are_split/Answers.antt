use Rattle.law_splits.proofs.Splits.{is_split, one_leaf_each}
use Rattle.law_splits.proofs.leaves.leaves_are_split.Goals as goal

pub returns-clause-split : goal.returns-clause-split
returns-clause-split c d read none choices entry h = is_split d read none choices entry h

pub returns-clause-each : goal.returns-clause-each
returns-clause-each c d = one_leaf_each d
