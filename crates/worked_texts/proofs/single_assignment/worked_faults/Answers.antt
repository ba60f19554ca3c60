use Rattle.worked_texts.proofs.WorkedFaults as faults
use Rattle.worked_texts.proofs.single_assignment.worked_faults.Goals as goal

pub returns-clause-rows : goal.returns-clause-rows
returns-clause-rows c = faults.rows-found

pub returns-clause-branches : goal.returns-clause-branches
returns-clause-branches c = faults.branches-found

pub returns-clause-constants : goal.returns-clause-constants
returns-clause-constants c = faults.constants-found

pub returns-clause-kinds_and_sets : goal.returns-clause-kinds_and_sets
returns-clause-kinds_and_sets c = faults.kinds_and_sets-found

pub returns-clause-loops : goal.returns-clause-loops
returns-clause-loops c = faults.loops-found

pub returns-clause-shared_variables : goal.returns-clause-shared_variables
returns-clause-shared_variables c = faults.shared_variables-found

pub returns-clause-beside : goal.returns-clause-beside
returns-clause-beside c = faults.beside-found

pub returns-clause-variables : goal.returns-clause-variables
returns-clause-variables c = faults.variables-found

pub returns-clause-claims : goal.returns-clause-claims
returns-clause-claims c = faults.claims-found

pub returns-clause-instances : goal.returns-clause-instances
returns-clause-instances c = faults.instances-found

pub returns-clause-first : goal.returns-clause-first
returns-clause-first c = faults.first-found

pub returns-clause-tomasulo : goal.returns-clause-tomasulo
returns-clause-tomasulo c = faults.tomasulo-found

pub returns-clause-other_passes : goal.returns-clause-other_passes
returns-clause-other_passes c = faults.other_passes-found
