use Rattle.std.proofs.Common.{◌≡◌, map, drop}
use Rattle.std.specs.List.{flat_map}
use Rattle.graphs.specs.Graph.{lists}
use Rattle.smv_mentions.specs.Said.{told}
use Rattle.smv_size.specs.Recursion.{least_from, recursive_told}
use Rattle.smv_size.proofs.recursion.first_in_all.Given as goal

abbrev pub invariant-loop-piece : goal.invariant-loop-piece
invariant-loop-piece l =
    least_from l.first (flat_map (recursive_told l.names (lists l.graph)) (map told (drop l.piece-index l.pieces)))
    ≡ least_from l.initial.first (flat_map (recursive_told l.names (lists l.graph)) (map told l.pieces))
