use Rattle.std.proofs.Common.{◌≡◌, ◌++◌, map, drop}
use Rattle.std.specs.List.{flat_map}
use Rattle.smv_references.specs.Again.{placed}
use Rattle.smv_choices.specs.Readings.{reading, leaf_keys}
use Rattle.smv_look_uses.proofs.leaves.leaf_names.Given as goal

abbrev pub invariant-loop-x : goal.invariant-loop-x
invariant-loop-x l = map placed l.names.items ++ flat_map leaf_keys (map reading (drop l.x-index l.all)) ≡ flat_map leaf_keys (map reading l.all)
