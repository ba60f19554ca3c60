use Rattle.law_verdicts.proofs.Invariants.{true_cases, true_results, true_reports}
use Rattle.law_verdicts.proofs.true_verdicts.true_verdicts_have_invariants.Goals as goal

pub returns-clause-cases : goal.returns-clause-cases
returns-clause-cases c case is bits nodes steps k v = true_cases case is bits nodes steps k v

pub returns-clause-units : goal.returns-clause-units
returns-clause-units c s checked have bits nodes steps u entry e r is true_is classes h = true_results s checked have bits nodes steps u entry e r is true_is classes h

pub returns-clause-reports : goal.returns-clause-reports
returns-clause-reports c s checked have bits nodes steps report is u entry e r k true_is classes h = true_reports s checked have bits nodes steps report is u entry e r k true_is classes h
