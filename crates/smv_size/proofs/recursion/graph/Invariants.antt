use Rattle.std.proofs.Common.{◌≡◌, ◌++◌, map, drop}
use Rattle.graphs.specs.Graph.{lists}
use Rattle.smv_mentions.specs.Said.{told}
use Rattle.smv_size.specs.Recursion.{module_graph}
use Rattle.smv_size.proofs.recursion.graph.Given as goal

abbrev pub invariant-loop-piece : goal.invariant-loop-piece
invariant-loop-piece l = lists l.graph.items ++ module_graph l.names (map told (drop l.piece-index l.pieces)) ≡ module_graph l.names (map told l.pieces)
