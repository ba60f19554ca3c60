use Rattle.smv_walks.proofs.BoundLaws.{all_bound}
use Rattle.smv_walks.proofs.bindings.bound_over.Goals as goal

pub returns : goal.returns
returns c w h = all_bound w _ _ _ _ _ _ c.in_ok-append.ensures.items (c.in_ok-inners.ensures w h) (c.in_ok-rests.ensures w h)
