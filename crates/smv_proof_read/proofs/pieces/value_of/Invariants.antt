use Rattle.std.proofs.Common.{◌≡◌, ◌≤◌, drop}
use Rattle.smv_proof.specs.Documents.{most}
use Rattle.smv_proof.specs.Readings.{value_from}
use Rattle.smv_proof_read.specs.Numbers.{at_most}
use Rattle.smv_proof_read.proofs.pieces.value_of.Given as goal

abbrev pub invariant-loop-digit : goal.invariant-loop-digit
invariant-loop-digit l = record { from : at_most (value_from 0 l.piece) ≡ at_most (value_from l.value (drop l.digit-index l.piece)); small : l.value ≤ most }
