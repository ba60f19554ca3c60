use Rattle.smv_outcomes.proofs.QuantifierLaws.{no_bound, more_bound}
use Rattle.smv_outcomes.proofs.bindings.+add_bound.Goals as goal

pub returns-in_default : goal.returns-in_default
returns-in_default t c = no_bound _ _ _ _ c.in_default.ensures.cases

pub returns : goal.returns
returns t c = let k = c.in-Some.ensures.cases in more_bound _ _ _ _ _ _ _ _ _ _ k.0 c.in_ok-inner.ensures c.from_vec.ensures c.in_ok-push.ensures.items c.in_ok-add_bound.ensures
