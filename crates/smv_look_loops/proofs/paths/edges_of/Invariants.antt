use Rattle.std.proofs.Common.{◌≡◌, ◌++◌, map, drop}
use Rattle.smv_loops.specs.Held.{reading_of}
use Rattle.smv_look_loops.specs.Graphs.{row}
use Rattle.smv_look_loops.proofs.paths.edges_of.Given as goal

abbrev pub invariant-loop-b : goal.invariant-loop-b
invariant-loop-b l = record {
  count : l.node ≡ l.b-index;
  row : l.edges.items ++ row l.families (reading_of l.a) l.b-index (map reading_of (drop l.b-index l.held)) ≡ row l.families (reading_of l.a) 0 (map reading_of l.held);
}
