use Rattle.std.proofs.Common.{◌≡◌, ℕ, ◌<◌, ◌≤◌, ◌⊎◌, true, false, length}
use Rattle.bdd_store.specs.Graph.{node_at, var_at}
use Rattle.bdd_store.specs.Seen.{flag}
use Rattle.bdd_store.proofs.chains.give_back.Given as goal

-- the places so far are done, and the others as they were
abbrev pub invariant-loop-place : goal.invariant-loop-place
invariant-loop-place l = record {
  count : length l.nodes.items ≡ length l.fn.nodes.items;
  later : (r : ℕ) → l.place ≤ r → node_at l.nodes.items r ≡ node_at l.fn.nodes.items r;
  kept : (r : ℕ) → (r < 2) ⊎ (flag l.marks r ≡ true) → node_at l.nodes.items r ≡ node_at l.fn.nodes.items r;
  gone : (r : ℕ) → 2 ≤ r → r < l.place → flag l.marks r ≡ false → var_at l.nodes.items r ≡ l.vars;
}
