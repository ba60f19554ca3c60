use Rattle.std.proofs.Common.{◌<◌}
use Rattle.graphs.specs.Graph.{lists}
use Rattle.graphs.specs.Placed.{Came}
use Rattle.graphs.proofs.ranks.place_all.Given as goal

-- what the nodes so far did
abbrev pub invariant-loop-node : goal.invariant-loop-node
invariant-loop-node l = Came (lists l.graph) (λ x. x < l.node) l.initial.placed.items l.placed.items l.initial.order.items l.order.items l.came
