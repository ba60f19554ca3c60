use Rattle.std.proofs.Common.{◌≡◌, ◌++◌, map, drop}
use Rattle.smv_references.specs.Again.{placed}
use Rattle.smv_splits.specs.Groups.{place_of_split}
use Rattle.smv_splits.proofs.lost.placed_names.Given as goal

abbrev pub invariant-loop-place : goal.invariant-loop-place
invariant-loop-place l = map placed l.out.items ++ map place_of_split (drop l.place l.splits) ≡ map place_of_split l.splits
