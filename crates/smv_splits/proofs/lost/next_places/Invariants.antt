use Rattle.std.proofs.Common.{◌≡◌, ◌++◌, map, drop, length}
use Rattle.smv_splits.specs.Groups.{next_place}
use Rattle.smv_splits.proofs.lost.next_places.Given as goal

abbrev pub invariant-loop-split : goal.invariant-loop-split
invariant-loop-split l =
    l.next.items ++ map (next_place l.tables.named (length l.tables.design.now.splits)) (drop l.split-index l.tables.design.now.splits) ≡ map (next_place l.tables.named (length l.tables.design.now.splits)) l.tables.design.now.splits
