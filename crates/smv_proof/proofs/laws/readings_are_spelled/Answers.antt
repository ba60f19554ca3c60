use Rattle.std.proofs.Common.{◌≡◌, ◌∙◌, Some, ap, sym}
use Rattle.law_lists.proofs.Options.{some_is}
use Rattle.smv_proof.specs.Readings.{proof_of}
use Rattle.smv_proof.proofs.Whole.{proof_is, proof_back}
use Rattle.smv_proof.proofs.laws.readings_are_spelled.Goals as goal

pub returns-clause-reads : goal.returns-clause-reads
returns-clause-reads c bytes proof = (λ e. proof_is bytes proof e, λ is. ap proof_of is.1 ∙ proof_back proof is.0)

pub returns-clause-one : goal.returns-clause-one
returns-clause-one c bytes proof other is is_other =
    let first : proof_of bytes ≡ Some proof = ap proof_of is.1 ∙ proof_back proof is.0 in
    let second : proof_of bytes ≡ Some other = ap proof_of is_other.1 ∙ proof_back other is_other.0 in
    some_is (sym first ∙ second)
