use Rattle.std.proofs.Common.{◌≡◌, ◌++◌, map, drop}
use Rattle.std.specs.List.{flat_map}
use Rattle.smv_choices.specs.Readings.{reading, proof_held, proofs_with}
use Rattle.smv_choices.proofs.proofs_of.all_proofs.Given as goal

abbrev pub invariant-loop-x : goal.invariant-loop-x
invariant-loop-x l = map proof_held l.out.items ++ flat_map proofs_with (map reading (drop l.x-index l.all)) ≡ flat_map proofs_with (map reading l.all)
