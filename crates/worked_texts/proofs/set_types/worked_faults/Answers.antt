use Rattle.worked_texts.proofs.SetTypeFaults as rows
use Rattle.worked_texts.proofs.set_types.worked_faults.Goals as goal

pub returns-clause-rows : goal.returns-clause-rows
returns-clause-rows c = rows.rows-found

pub returns-clause-comparisons : goal.returns-clause-comparisons
returns-clause-comparisons c = rows.comparisons-found

pub returns-clause-orders : goal.returns-clause-orders
returns-clause-orders c = rows.orders-found

pub returns-clause-within : goal.returns-clause-within
returns-clause-within c = rows.within-found

pub returns-clause-lists : goal.returns-clause-lists
returns-clause-lists c = rows.lists-found

pub returns-clause-branches : goal.returns-clause-branches
returns-clause-branches c = rows.branches-found

pub returns-clause-labels : goal.returns-clause-labels
returns-clause-labels c = rows.labels-found

pub returns-clause-targets : goal.returns-clause-targets
returns-clause-targets c = rows.targets-found

pub returns-clause-indexes : goal.returns-clause-indexes
returns-clause-indexes c = rows.indexes-found

pub returns-clause-loops : goal.returns-clause-loops
returns-clause-loops c = rows.loops-found

pub returns-clause-reach : goal.returns-clause-reach
returns-clause-reach c = rows.reach-found

pub returns-clause-first : goal.returns-clause-first
returns-clause-first c = rows.first-found

pub returns-clause-tomasulo : goal.returns-clause-tomasulo
returns-clause-tomasulo c = rows.tomasulo-found
