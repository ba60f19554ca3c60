use Rattle.std.proofs.Common.{length}
use Rattle.smv_ring_paths.proofs.Walks.{IsWalk}
use Rattle.smv_ring_paths.proofs.walk_back.Given as goal

abbrev pub invariant-loop-left : goal.invariant-loop-left
invariant-loop-left l = IsWalk l.initial.store l.rel (length l.rings) (length l.initial.states.items) l.store l.state l.states.items l.left

abbrev pub decreases-loop-left : goal.decreases-loop-left
decreases-loop-left l = l.left
