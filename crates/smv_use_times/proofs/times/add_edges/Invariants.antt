use Rattle.std.proofs.Common.{◌≡◌, ◌++◌, drop}
use Rattle.std.specs.List.{flat_map}
use Rattle.smv_use_times.specs.Times.{edge_of}
use Rattle.smv_use_times.proofs.times.add_edges.Given as goal

abbrev pub invariant-loop-x : goal.invariant-loop-x
invariant-loop-x l = l.edges.items ++ flat_map (edge_of l.place) (drop l.x-index l.uses) ≡ l.initial.edges.items ++ flat_map (edge_of l.place) l.uses
