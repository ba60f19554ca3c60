use Rattle.law_arrangements.proofs.Telling.{tries_may_be_told, declared_may_be_told}
use Rattle.law_arrangements.proofs.tries.tries_may_be_told.Goals as goal

pub returns-clause-tries : goal.returns-clause-tries
returns-clause-tries c case is o ok nodes part steps v e first = tries_may_be_told case is o ok nodes part steps v e first

pub returns-clause-declared : goal.returns-clause-declared
returns-clause-declared c case is nodes steps v first = declared_may_be_told case is nodes steps v first
