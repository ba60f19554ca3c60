use Rattle.law_reports.proofs.Plans.{case_is, told_is}
use Rattle.law_reports.proofs.plan_cases.units_are_told_by_cases.Goals as goal

pub returns-clause-cases : goal.returns-clause-cases
returns-clause-cases c d leaves choices u leaf choice at times is_time classes = case_is d leaves choices u leaf choice at times is_time classes

pub returns-clause-told : goal.returns-clause-told
returns-clause-told c d leaves choices u leaf choice at times is_time bits nodes images verdict told = told_is d leaves choices u leaf choice at times is_time bits nodes images verdict told
