use Rattle.worked_texts.proofs.WorkedDemands as rows
use Rattle.worked_texts.proofs.cases.worked_demands.Goals as goal

pub returns-clause-itself : goal.returns-clause-itself
returns-clause-itself c = rows.itself-demanded

pub returns-clause-where_kept : goal.returns-clause-where_kept
returns-clause-where_kept c = rows.where_kept-demanded
