use Rattle.smv_ring_paths.proofs.Joins.{IsJoined}
use Rattle.smv_ring_paths.proofs.sets.all_with.Given as goal

abbrev pub invariant-loop-f : goal.invariant-loop-f
invariant-loop-f l = IsJoined l.initial.store l.initial.all l.fs l.store l.all l.f-index
