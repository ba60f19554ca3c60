use Rattle.std.proofs.Common.{◌≡◌, ◌++◌, drop, map}
use Rattle.smv_use_times.specs.Tables.{outline}
use Rattle.smv_use_times.specs.Uses.{claim_use}
use Rattle.smv_use_times.proofs.uses.claim_uses.Given as goal

abbrev pub invariant-loop-used : goal.invariant-loop-used
invariant-loop-used l = l.uses.items ++ map (claim_use (outline l.tables)) (drop l.used-index l.claims) ≡ map (claim_use (outline l.tables)) l.claims
