use Rattle.smv_outcomes.proofs.AlikeLaws.{no_same, more_same}
use Rattle.smv_outcomes.proofs.bindings.+add_same.Goals as goal

pub returns-in_default : goal.returns-in_default
returns-in_default g t c = no_same _ _ _ c.in_default.ensures.cases

pub returns : goal.returns
returns g t c = let k = c.in-Some.ensures.cases in more_same _ _ _ _ _ _ _ k.0 c.in_ok-push.ensures.items c.in_ok-add_same.ensures
