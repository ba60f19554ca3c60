use Rattle.std.proofs.Common.{◌≡◌, ◌++◌, map, drop}
use Rattle.law_designs.specs.Reading.{Reading}
use Rattle.smv_loops.specs.Held.{reading_of}
use Rattle.graph_loops.specs.Walks.{lists}
use Rattle.smv_look_loops.specs.Graphs.{row, rows}
use Rattle.smv_look_loops.proofs.paths.graph.Given as goal

abbrev pub invariant-loop-a : goal.invariant-loop-a
invariant-loop-a l = lists l.graph.items ++ map (λ (a : Reading). row l.families a 0 (map reading_of l.held)) (map reading_of (drop l.a-index l.held)) ≡ rows l.families (map reading_of l.held)
