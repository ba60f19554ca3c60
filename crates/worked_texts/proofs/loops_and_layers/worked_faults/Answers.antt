use Rattle.worked_texts.proofs.LoopFaults as faults
use Rattle.worked_texts.proofs.loops_and_layers.worked_faults.Goals as goal

pub returns-clause-rows : goal.returns-clause-rows
returns-clause-rows c = faults.rows-found

pub returns-clause-loops : goal.returns-clause-loops
returns-clause-loops c = faults.loops-found

pub returns-clause-delays : goal.returns-clause-delays
returns-clause-delays c = faults.delays-found

pub returns-clause-indexes : goal.returns-clause-indexes
returns-clause-indexes c = faults.indexes-found

pub returns-clause-sets : goal.returns-clause-sets
returns-clause-sets c = faults.sets-found

pub returns-clause-conditions : goal.returns-clause-conditions
returns-clause-conditions c = faults.conditions-found

pub returns-clause-modules : goal.returns-clause-modules
returns-clause-modules c = faults.modules-found

pub returns-clause-base_definitions : goal.returns-clause-base_definitions
returns-clause-base_definitions c = faults.base_definitions-found

pub returns-clause-reading : goal.returns-clause-reading
returns-clause-reading c = faults.reading-found

pub returns-clause-assigning : goal.returns-clause-assigning
returns-clause-assigning c = faults.assigning-found

pub returns-clause-passes : goal.returns-clause-passes
returns-clause-passes c = faults.passes-found

pub returns-clause-tomasulo : goal.returns-clause-tomasulo
returns-clause-tomasulo c = faults.tomasulo-found
