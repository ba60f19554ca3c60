use Rattle.std.proofs.Common.{◌≡◌, ◌++◌, drop, map}
use Rattle.std.specs.List.{flat_map}
use Rattle.smv_core.specs.declared.flat.Claim.{Claim}
use Rattle.smv_look_lint.specs.Signals.{read_by}
use Rattle.smv_look_lint.proofs.signals.push_claims.Given as goal

abbrev pub invariant-loop-claim : goal.invariant-loop-claim
invariant-loop-claim l = l.out.items ++ flat_map (λ (claim : Claim). read_by claim.body) (drop l.claim-index l.claims) ≡ l.initial.out.items ++ flat_map (λ (claim : Claim). read_by claim.body) l.claims
