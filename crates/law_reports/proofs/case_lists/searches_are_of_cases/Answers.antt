use Rattle.law_reports.proofs.Paths.{none_is_none, least_is_least}
use Rattle.law_reports.proofs.case_lists.searches_are_of_cases.Goals as goal

pub returns-clause-none : goal.returns-clause-none
returns-clause-none c case is none = none_is_none case is none

pub returns-clause-least : goal.returns-clause-least
returns-clause-least c case is k path v least = least_is_least case is k path v least
