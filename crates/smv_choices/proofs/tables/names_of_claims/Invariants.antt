use Rattle.std.proofs.Common.{◌≡◌, ◌++◌, map, drop}
use Rattle.smv_choices.proofs.tables.names_of_claims.Given as goal

abbrev pub invariant-loop-claim : goal.invariant-loop-claim
invariant-loop-claim l = l.names ++ map (λ claim. claim.name) (drop l.claim-index l.claims) ≡ map (λ claim. claim.name) l.claims
