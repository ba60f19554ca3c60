use Rattle.law_arrangements.proofs.Declared.{declared_is_arrangement, declared_is_today}
use Rattle.law_arrangements.proofs.arrangements.declared_lists_are_same.Goals as goal

pub returns-clause-arrangement : goal.returns-clause-arrangement
returns-clause-arrangement c case is = declared_is_arrangement case is

pub returns-clause-same : goal.returns-clause-same
returns-clause-same c case is = declared_is_today case is
