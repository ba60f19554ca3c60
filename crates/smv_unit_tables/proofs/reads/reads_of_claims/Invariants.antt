use Rattle.std.proofs.Common.{◌≡◌, ◌++◌, map, drop}
use Rattle.smv_unit_tables.specs.Reads.{claim_reads, lists}
use Rattle.smv_unit_tables.proofs.reads.reads_of_claims.Given as goal

abbrev pub invariant-loop-claim : goal.invariant-loop-claim
invariant-loop-claim l = lists l.table.items ++ map (claim_reads l.families) (drop l.claim-index l.claims) ≡ map (claim_reads l.families) l.claims
