use Rattle.smv_walks.proofs.DemandLaws.{none_there, first_there, others_there}
use Rattle.smv_walks.proofs.demands.+some_rest.Goals as goal

pub returns-in_default : goal.returns-in_default
returns-in_default t c ps e = none_there _ c.in_default.ensures.cases ps e

pub returns-then-is_rest : goal.returns-then-is_rest
returns-then-is_rest t c ps e = let k = c.in-Some.ensures.cases in first_there _ _ _ _ k.0 c.is_rest.ensures c.if-is_rest.true ps e

pub returns-else-is_rest : goal.returns-else-is_rest
returns-else-is_rest t c ps e = let k = c.in-Some.ensures.cases in others_there _ _ _ _ k.0 c.is_rest.ensures c.if-is_rest.false _ c.some_rest.ensures ps e
