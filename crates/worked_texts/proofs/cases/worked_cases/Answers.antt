use Rattle.worked_texts.proofs.WorkedCases as rows
use Rattle.worked_texts.proofs.cases.worked_cases.Goals as goal

pub returns-clause-scalarsets : goal.returns-clause-scalarsets
returns-clause-scalarsets c = rows.scalarsets-cases

pub returns-clause-ordsets : goal.returns-clause-ordsets
returns-clause-ordsets c = rows.ordsets-cases

pub returns-clause-others : goal.returns-clause-others
returns-clause-others c = rows.others-cases

pub returns-clause-kept : goal.returns-clause-kept
returns-clause-kept c = rows.kept-cases

pub returns-clause-tomasulo : goal.returns-clause-tomasulo
returns-clause-tomasulo c = rows.tomasulo-cases

pub returns-clause-declared : goal.returns-clause-declared
returns-clause-declared c = rows.declared-cases

pub returns-clause-sides : goal.returns-clause-sides
returns-clause-sides c = rows.sides-cases
