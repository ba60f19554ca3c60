use Rattle.worked_texts.proofs.WorkedTypes as rows
use Rattle.worked_texts.proofs.cases.worked_types.Goals as goal

pub returns-clause-types : goal.returns-clause-types
returns-clause-types c = rows.types-types

pub returns-clause-parameters : goal.returns-clause-parameters
returns-clause-parameters c = rows.parameters-kept

pub returns-clause-numbers : goal.returns-clause-numbers
returns-clause-numbers c = rows.numbers-kept
