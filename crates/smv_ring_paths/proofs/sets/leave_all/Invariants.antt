use Rattle.std.proofs.Common.{drop}
use Rattle.smv_ring_paths.proofs.Joins.{IsLeft}
use Rattle.smv_ring_paths.proofs.sets.leave_all.Given as goal

abbrev pub invariant-loop-op : goal.invariant-loop-op
invariant-loop-op l = IsLeft l.initial.store l.initial.p l.ops l.store l.p (drop l.op-index l.ops)
