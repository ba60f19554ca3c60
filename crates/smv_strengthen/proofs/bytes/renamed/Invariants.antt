use Rattle.std.proofs.Common.{◌≡◌, ◌++◌, drop, false}
use Rattle.law_strengthened_claims.specs.Renaming.{renamed_bytes}
use Rattle.smv_strengthen.proofs.bytes.renamed.Given as goal

abbrev pub invariant-loop-token : goal.invariant-loop-token
invariant-loop-token l = l.out.items ++ renamed_bytes l.text l.var l.fresh l.start l.to l.is_behind_dot (drop l.token-index l.tokens) ≡ renamed_bytes l.text l.var l.fresh l.from l.to false l.tokens
