-- What a worked text computes with.
use Rattle.worked_texts.proofs.KindsComputing as kinds
use Rattle.worked_texts.proofs.FlatteningComputing as flat
use Rattle.worked_texts.proofs.SingleAssignmentComputing as single
use Rattle.law_obligations.proofs.Computing as state
use Rattle.law_obligations.specs.Codes.{bits_for}
use Rattle.law_valid_texts.specs.Faults.{pass_fault}

unfoldable pub computing : Unit {0}
unfolding kinds.computing flat.computing single.computing state.computing bits_for pass_fault
computing = tt
