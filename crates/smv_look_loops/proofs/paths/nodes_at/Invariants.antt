use Rattle.std.proofs.Common.{◌≡◌, ◌++◌, map, drop}
use Rattle.smv_loops.specs.Held.{reading_of}
use Rattle.smv_look_loops.specs.Graphs.{nodes_at}
use Rattle.smv_look_loops.proofs.paths.nodes_at.Given as goal

abbrev pub invariant-loop-x : goal.invariant-loop-x
invariant-loop-x l = record {
  count : l.node ≡ l.x-index;
  nodes : l.nodes.items ++ nodes_at l.at l.x-index (map reading_of (drop l.x-index l.held)) ≡ nodes_at l.at 0 (map reading_of l.held);
}
