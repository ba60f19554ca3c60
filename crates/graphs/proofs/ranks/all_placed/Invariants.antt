use Rattle.std.proofs.Common.{take}
use Rattle.std.specs.List.{All}
use Rattle.graph_search.specs.Searches.{IsSeen}
use Rattle.graphs.proofs.ranks.all_placed.Given as goal

-- each so far has a place
abbrev pub invariant-loop-node : goal.invariant-loop-node
invariant-loop-node l = All (IsSeen l.placed) (take l.node-index l.nodes)
