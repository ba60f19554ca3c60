use Rattle.std.proofs.Common.{◌≡◌, ◌+◌, ◌<◌, ◌++◌, map, drop, length}
use Rattle.std.specs.List.{flat_map, All}
use Rattle.smv_loops.specs.Held.{reference_of}
use Rattle.smv_loops.specs.Cells.{number_in, reads_of}
use Rattle.smv_loops.specs.Edges.{total}
use Rattle.smv_loops.specs.Rows.{stands_for}
use Rattle.smv_loops.proofs.cells.links.Given as goal

abbrev pub invariant-loop-read : goal.invariant-loop-read
invariant-loop-read l = record {
  stand : flat_map (stands_for l.families l.rows.rows.items) l.to.items ++ map (number_in l.families) (flat_map (reads_of l.families) (map reference_of (drop l.read-index l.held.reads.items)))
      ≡ map (number_in l.families) (flat_map (reads_of l.families) (map reference_of l.held.reads.items));
  below : All (λ t. t < total l.families + length l.rows.rows.items) l.to.items;
}
