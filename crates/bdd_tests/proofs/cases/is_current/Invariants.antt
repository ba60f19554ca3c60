use Rattle.std.proofs.Common.{◌≡◌, ℕ, ◌<◌, ◌+◌, ◌*◌, false}
use Rattle.bdd_ops.specs.Functions.{bit_at}
use Rattle.bdd_tests.proofs.cases.is_current.Given as goal

abbrev pub invariant-loop-b : goal.invariant-loop-b
invariant-loop-b l = (j : ℕ) → j < l.b → bit_at l.reads.items (2 * j + 1) ≡ false
