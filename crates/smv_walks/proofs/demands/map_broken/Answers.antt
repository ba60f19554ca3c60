use Rattle.smv_walks.proofs.DemandLaws.{map_at_rest, map_given}
use Rattle.smv_walks.proofs.demands.map_broken.Goals as goal

pub returns-then-some_rest-clause-is : goal.returns-then-some_rest-clause-is
returns-then-some_rest-clause-is g c = map_at_rest _ _ _ _ _ _ _ _ _ _ _ _ c.as_slice.ensures c.some_rest.ensures c.if-some_rest.true c.constant.ensures.holds

pub returns-clause-is : goal.returns-clause-is
returns-clause-is g c = map_given _ _ _ _ _ _ _ _ _ _ _ _ _ c.as_slice.ensures c.some_rest.ensures c.if-some_rest.false c.in_ok-r.ensures.is
