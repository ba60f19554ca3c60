use Rattle.std.proofs.Common.{◌≡◌, ◌++◌, map, drop}
use Rattle.smv_references.specs.Again.{placed}
use Rattle.smv_choices.specs.Readings.{leaf_key, pair_of}
use Rattle.smv_look_uses.proofs.leaves.add_leaves.Given as goal

abbrev pub invariant-loop-x : goal.invariant-loop-x
invariant-loop-x l = map placed l.out.items ++ map leaf_key (map pair_of (drop l.x-index l.proved)) ≡ map placed l.initial.out.items ++ map leaf_key (map pair_of l.proved)
