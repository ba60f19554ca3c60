use Rattle.law_arrangements.proofs.Paths.{none_is_none, least_is_least}
use Rattle.law_arrangements.proofs.arrangements.lengths_are_of_cases.Goals as goal

pub returns-clause-none : goal.returns-clause-none
returns-clause-none c case is o ok none = none_is_none case is o ok none

pub returns-clause-least : goal.returns-clause-least
returns-clause-least c case is o ok k path v least = least_is_least case is o ok k path v least
