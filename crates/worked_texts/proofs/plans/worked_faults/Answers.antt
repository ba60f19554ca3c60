use Rattle.worked_texts.proofs.PlanFaults as rows
use Rattle.worked_texts.proofs.plans.worked_faults.Goals as goal

pub returns-clause-passes : goal.returns-clause-passes
returns-clause-passes c = rows.passes-found

pub returns-clause-leaves : goal.returns-clause-leaves
returns-clause-leaves c = rows.leaves-found
