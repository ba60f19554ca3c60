use Rattle.law_obligations.proofs.ScriptCases.{is_case}
use Rattle.law_obligations.proofs.cases.cases_are_cases.Goals as goal

pub returns-clause-cases : goal.returns-clause-cases
returns-clause-cases c s checked have entry h times classes = is_case s checked have entry classes times

pub returns-clause-proved : goal.returns-clause-proved
returns-clause-proved c s none u entry e classes h path are = none u entry e classes h path are
