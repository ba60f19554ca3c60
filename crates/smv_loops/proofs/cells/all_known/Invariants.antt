use Rattle.std.proofs.Common.{◌≡◌, ◌++◌, map, drop}
use Rattle.smv_indexes.specs.Indexes.{index_of}
use Rattle.smv_loops.specs.Held.{index_in}
use Rattle.smv_loops.proofs.cells.all_known.Given as goal

abbrev pub invariant-loop-x : goal.invariant-loop-x
invariant-loop-x l = map index_of l.all.items ++ map index_in (drop l.x-index l.indexes) ≡ map index_in l.indexes
