use Rattle.worked_texts.proofs.SplitFaults as rows
use Rattle.worked_texts.proofs.splits.worked_faults.Goals as goal

pub returns-clause-rows : goal.returns-clause-rows
returns-clause-rows c = rows.rows-found

pub returns-clause-of : goal.returns-clause-of
returns-clause-of c = rows.of-found

pub returns-clause-again : goal.returns-clause-again
returns-clause-again c = rows.again-found

pub returns-clause-astray : goal.returns-clause-astray
returns-clause-astray c = rows.astray-found

pub returns-clause-counts : goal.returns-clause-counts
returns-clause-counts c = rows.counts-found

pub returns-clause-unbound : goal.returns-clause-unbound
returns-clause-unbound c = rows.unbound-found

pub returns-clause-doubled : goal.returns-clause-doubled
returns-clause-doubled c = rows.doubled-found

pub returns-clause-types : goal.returns-clause-types
returns-clause-types c = rows.types-found

pub returns-clause-equations : goal.returns-clause-equations
returns-clause-equations c = rows.equations-found

pub returns-clause-kinds : goal.returns-clause-kinds
returns-clause-kinds c = rows.kinds-found

pub returns-clause-strays : goal.returns-clause-strays
returns-clause-strays c = rows.strays-found

pub returns-clause-instances : goal.returns-clause-instances
returns-clause-instances c = rows.instances-found

pub returns-clause-first : goal.returns-clause-first
returns-clause-first c = rows.first-found

pub returns-clause-tomasulo : goal.returns-clause-tomasulo
returns-clause-tomasulo c = rows.tomasulo-found
