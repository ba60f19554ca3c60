use Rattle.worked_texts.proofs.UseFaults as rows
use Rattle.worked_texts.proofs.uses.worked_faults.Goals as goal

pub returns-clause-rows : goal.returns-clause-rows
returns-clause-rows c = rows.rows-found

pub returns-clause-uses : goal.returns-clause-uses
returns-clause-uses c = rows.uses-found

pub returns-clause-proved : goal.returns-clause-proved
returns-clause-proved c = rows.proved-found

pub returns-clause-instances : goal.returns-clause-instances
returns-clause-instances c = rows.instances-found

pub returns-clause-twice : goal.returns-clause-twice
returns-clause-twice c = rows.twice-found

pub returns-clause-choices : goal.returns-clause-choices
returns-clause-choices c = rows.choices-found

pub returns-clause-braces : goal.returns-clause-braces
returns-clause-braces c = rows.braces-found

pub returns-clause-brackets : goal.returns-clause-brackets
returns-clause-brackets c = rows.brackets-found

pub returns-clause-first : goal.returns-clause-first
returns-clause-first c = rows.first-found

pub returns-clause-tomasulo : goal.returns-clause-tomasulo
returns-clause-tomasulo c = rows.tomasulo-found
