use Rattle.std.proofs.Common.{◌≡◌, ◌++◌, map, drop}
use Rattle.law_splits.specs.Leaves.{named_by}
use Rattle.smv_choices.specs.Readings.{proof_held}
use Rattle.smv_choices.proofs.proofs_of.names_of_proofs.Given as goal

abbrev pub invariant-loop-proof : goal.invariant-loop-proof
invariant-loop-proof l = l.names.items ++ map (λ proof. named_by (proof_held proof).of) (drop l.proof-index l.proofs) ≡ map (λ proof. named_by (proof_held proof).of) l.proofs
