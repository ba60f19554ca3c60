use Rattle.smv_outcomes.proofs.AlikeLaws.{same_all}
use Rattle.smv_outcomes.proofs.bindings.same_for_each.Goals as goal

pub returns : goal.returns
returns g c = same_all _ _ _ c.new-each.ensures.items c.in_ok-add_same.ensures
