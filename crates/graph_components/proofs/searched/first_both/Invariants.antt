use Rattle.std.proofs.Common.{ℕ, ◌≤◌}
use Rattle.graph_search.specs.Searches.{IsSeen}
use Rattle.graph_components.proofs.searched.first_both.Given as goal

abbrev pub invariant-loop-number : goal.invariant-loop-number
invariant-loop-number l = (x : ℕ) → IsSeen l.marks x → IsSeen l.others x → l.number ≤ x
