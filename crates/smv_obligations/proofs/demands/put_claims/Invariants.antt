use Rattle.std.proofs.Common.{◌≡◌, ◌++◌, flat_map, drop}
use Rattle.std.specs.List.{zip}
use Rattle.smv_obligations.specs.Demands.{claim_in_turn}
use Rattle.smv_obligations.proofs.demands.put_claims.Given as goal

abbrev pub invariant-loop-place : goal.invariant-loop-place
invariant-loop-place l = l.demands ++ flat_map (claim_in_turn l.part l.time) (zip (drop l.place l.claims) (drop l.place l.times)) ≡ l.initial.demands ++ flat_map (claim_in_turn l.part l.time) (zip l.claims l.times)
