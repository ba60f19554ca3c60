use Rattle.std.proofs.Common.{◌≡◌, ℕ, ◌<◌, false, get_or}
use Rattle.bdd_store.proofs.visits.clear.Given as goal

-- the flags so far are away
abbrev pub invariant-loop-flag : goal.invariant-loop-flag
invariant-loop-flag l = (k : ℕ) → k < l.flag-index → get_or l.flag-items k false ≡ false
