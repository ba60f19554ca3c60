use Rattle.worked_texts.proofs.WorkedLeaves as rows
use Rattle.worked_texts.proofs.splits.worked_leaves.Goals as goal

pub returns-clause-ends : goal.returns-clause-ends
returns-clause-ends c = rows.ends-told

pub returns-clause-parameters : goal.returns-clause-parameters
returns-clause-parameters c = rows.parameters-told

pub returns-clause-brackets : goal.returns-clause-brackets
returns-clause-brackets c = rows.brackets-told

pub returns-clause-guards : goal.returns-clause-guards
returns-clause-guards c = rows.guards-told
