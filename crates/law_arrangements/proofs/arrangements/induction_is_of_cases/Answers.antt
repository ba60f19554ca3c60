use Rattle.law_arrangements.proofs.Paths.{induction_holds}
use Rattle.law_arrangements.proofs.Invariants.{inductive_is_invariant}
use Rattle.law_arrangements.proofs.arrangements.induction_is_of_cases.Goals as goal

pub returns-clause-invariant : goal.returns-clause-invariant
returns-clause-invariant c case is o ok set i = inductive_is_invariant case is o ok set i

pub returns-clause-holds : goal.returns-clause-holds
returns-clause-holds c case is o ok set i = induction_holds case is o ok set i
