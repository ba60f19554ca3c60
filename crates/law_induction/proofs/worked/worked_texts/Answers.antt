-- By computing what is read.
use Rattle.law_induction.proofs.WorkedTexts as worked
use Rattle.law_induction.proofs.worked.worked_texts.Goals as goal

pub returns-clause-machine : goal.returns-clause-machine
returns-clause-machine c = worked.machine-worked

pub returns-clause-names : goal.returns-clause-names
returns-clause-names c = worked.names-worked

pub returns-clause-type_names : goal.returns-clause-type_names
returns-clause-type_names c = worked.type_names-worked
