use Rattle.smv_proof_read.proofs.Cuts.{LacksBefore}
use Rattle.smv_proof_read.proofs.pieces.cut.Given as goal

abbrev pub invariant-loop-place : goal.invariant-loop-place
invariant-loop-place l = LacksBefore l.at l.bytes l.place
