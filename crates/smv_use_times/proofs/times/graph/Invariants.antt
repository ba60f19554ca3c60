use Rattle.std.proofs.Common.{◌≡◌, ◌++◌, drop, map}
use Rattle.graph_search.specs.Walks.{lists}
use Rattle.smv_use_times.specs.Uses.{held}
use Rattle.smv_use_times.specs.Times.{edges_from}
use Rattle.smv_use_times.proofs.times.graph.Given as goal

abbrev pub invariant-loop-place : goal.invariant-loop-place
invariant-loop-place l = lists l.graph.items ++ edges_from l.place (map held (drop l.place l.all)) ≡ edges_from 0 (map held l.all)
