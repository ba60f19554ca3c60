use Rattle.std.proofs.Common.{take}
use Rattle.smv_moved_sets.proofs.Built.{AreBuilt}
use Rattle.smv_moved_sets.proofs.rebuild_by.Given as goal

abbrev pub invariant-loop-node : goal.invariant-loop-node
invariant-loop-node l = AreBuilt l.initial.store l.store l.bits (take l.node-index l.set.nodes) l.refs.items
