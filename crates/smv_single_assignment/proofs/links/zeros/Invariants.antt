use Rattle.std.proofs.Common.{◌≡◌, ℕ, length, get_or}
use Rattle.smv_single_assignment.proofs.links.zeros.Given as goal

abbrev pub invariant-loop-step : goal.invariant-loop-step
invariant-loop-step l = record { length_is : length l.zeros.items ≡ l.step; zero : (k : ℕ) → get_or l.zeros.items k 0 ≡ 0 }
