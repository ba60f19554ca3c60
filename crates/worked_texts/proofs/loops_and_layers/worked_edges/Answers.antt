use Rattle.worked_texts.proofs.WorkedEdges as edges
use Rattle.worked_texts.proofs.loops_and_layers.worked_edges.Goals as goal

pub returns-clause-assignments : goal.returns-clause-assignments
returns-clause-assignments c = edges.assignments-found

pub returns-clause-indexes : goal.returns-clause-indexes
returns-clause-indexes c = edges.indexes-found
