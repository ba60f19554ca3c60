use Rattle.smv_ring_paths.proofs.Joins.{AreSteps}
use Rattle.smv_ring_paths.proofs.sets.steps_to.Given as goal

abbrev pub invariant-loop-left : goal.invariant-loop-left
invariant-loop-left l = AreSteps l.initial.store l.next l.store l.steps l.left

abbrev pub decreases-loop-left : goal.decreases-loop-left
decreases-loop-left l = l.left
