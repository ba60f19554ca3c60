use Rattle.std.proofs.Common.{◌-◌, length}
use Rattle.graphs.specs.Graph.{lists}
use Rattle.graphs.specs.Placed.{Placed}
use Rattle.graphs.proofs.ranks.order.Given as goal

-- an order so far
abbrev pub invariant-loop-node : goal.invariant-loop-node
invariant-loop-node l = Placed (lists l.graph) l.placed.items l.order.items

abbrev pub invariant-rounds : goal.invariant-rounds
invariant-rounds l = Placed (lists l.graph) l.placed.items l.order.items

-- how many are left out
abbrev pub decreases-rounds : goal.decreases-rounds
decreases-rounds l = length l.graph - length l.order.items
