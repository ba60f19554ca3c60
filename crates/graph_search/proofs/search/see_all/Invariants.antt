use Rattle.std.proofs.Common.{take}
use Rattle.graph_search.specs.Searches.{Saw}
use Rattle.graph_search.proofs.search.see_all.Given as goal

-- the nodes so far were seen
abbrev pub invariant-loop-node : goal.invariant-loop-node
invariant-loop-node l = Saw (take l.node-index l.nodes) l.initial.seen.items l.seen.items l.initial.queue.items l.queue.items
