use Rattle.law_reports.proofs.Paths.{induction_to, induction_from, invariants_hold}
use Rattle.law_reports.proofs.case_lists.induction_is_of_cases.Goals as goal

pub returns-clause-same : goal.returns-clause-same
returns-clause-same c case is set = (λ i. induction_to case is set i, λ i. induction_from case is set i)

pub returns-clause-holds : goal.returns-clause-holds
returns-clause-holds c case is set i = invariants_hold case is set i
