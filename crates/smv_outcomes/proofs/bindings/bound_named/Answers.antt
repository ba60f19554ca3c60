use Rattle.smv_outcomes.proofs.QuantifierLaws.{bound_places}
use Rattle.smv_outcomes.proofs.bindings.bound_named.Goals as goal

pub returns : goal.returns
returns c w h = bound_places w.classes _ _ _ _ _ _ _ (c.in_ok-spots.ensures w h) c.as_slice.ensures.value c.new-inners.ensures.items c.in_ok-add_bound.ensures
