use Rattle.std.proofs.Common.{map, None}
use Rattle.std.specs.List.{flat_map}
use Rattle.graphs.specs.Graph.{lists}
use Rattle.smv_mentions.specs.Said.{told}
use Rattle.smv_size.specs.Recursion.{least_from, recursive_told}
use Rattle.smv_size.proofs.Steps.{least-turn}
use Rattle.smv_size.proofs.recursion.first_in_all.Goals as goal

pub loop-piece-preserved : goal.loop-piece-preserved
loop-piece-preserved c =
    let f = recursive_told c.args.names.now (lists c.args.graph.now) in
    least-turn f told c.args.pieces.now c.loop-piece.piece-index c.piece-item.result c.loop-piece.first c.in_ok-first.first (least_from None (flat_map f (map told c.args.pieces.now)))
    c.loop-piece-test.true c.piece-item.is c.in_ok-first.ensures c.loop-piece.invariant
