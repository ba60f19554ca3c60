use Rattle.std.proofs.Common.{◌≡◌, length}
use Rattle.smv_proof.specs.Readings.{sets_of}
use Rattle.smv_proof_read.specs.Onward.{between, onward}
use Rattle.smv_proof_read.proofs.sets.read_sets.Given as goal

abbrev pub invariant-loop-rest : goal.invariant-loop-rest
invariant-loop-rest l = sets_of l.fn.bytes ≡ onward (between l.sets.items) l.rest

abbrev pub decreases-loop-rest : goal.decreases-loop-rest
decreases-loop-rest l = length l.rest
