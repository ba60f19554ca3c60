use Rattle.std.proofs.Common.{◌≡◌, ◌++◌, map, drop}
use Rattle.smv_choices.specs.Readings.{reading, proof_held, proofs_with}
use Rattle.smv_choices.proofs.PartLaws.{proving}
use Rattle.smv_choices.proofs.proofs_of.add_using.Given as goal

abbrev pub invariant-loop-of : goal.invariant-loop-of
invariant-loop-of l = map proof_held l.out.items ++ map (proving (reading l.by)) (drop l.of-index l.by.using.now.proves) ≡ map proof_held l.initial.out.items ++ proofs_with (reading l.by)
