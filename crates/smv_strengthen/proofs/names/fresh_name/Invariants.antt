use Rattle.std.proofs.Common.{◌≡◌, ◌-◌, length}
use Rattle.law_strengthened_texts.specs.Stronger.{first_free, fresh_name}
use Rattle.smv_strengthen.proofs.names.fresh_name.Given as goal

abbrev pub invariant-loop-k : goal.invariant-loop-k
invariant-loop-k l = first_free l.tokens (length l.tokens - l.k) l.k ≡ fresh_name l.tokens
