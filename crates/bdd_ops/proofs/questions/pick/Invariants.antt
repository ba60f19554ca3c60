use Rattle.std.proofs.Common.{◌≡◌, ℕ, ◌-◌, ◌<◌, Bool, false, length}
use Rattle.bdd_store.specs.Diagram.{IsLive, IsConstant, first_var, table}
use Rattle.bdd_ops.specs.Functions.{bit_at}
use Rattle.bdd_ops.proofs.questions.pick.Given as goal

-- the values so far lead to a function that is not 0 everywhere
abbrev pub invariant-loop-rest : goal.invariant-loop-rest
invariant-loop-rest l = record {
  live : IsLive l.store l.rest;
  some : IsConstant l.store l.rest false → ⊥;
  size : length l.bits.items ≡ l.store.vars;
  leads : (a : ℕ → Bool) → ((v : ℕ) → v < first_var l.store l.rest → a v ≡ bit_at l.bits.items v) → table l.store l.fn.f a ≡ table l.store l.rest a;
}

abbrev pub decreases-loop-rest : goal.decreases-loop-rest
decreases-loop-rest l = l.store.vars - first_var l.store l.rest
