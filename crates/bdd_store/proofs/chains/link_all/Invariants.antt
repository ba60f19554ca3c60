use Rattle.std.proofs.Common.{◌≡◌, ℕ, ◌<◌, get_or}
use Rattle.bdd_store.specs.Chains.{SameGraph, Chained}
use Rattle.bdd_store.proofs.chains.link_all.Given as goal

-- the heads so far are empty
abbrev pub invariant-loop-head : goal.invariant-loop-head
invariant-loop-head l = (k : ℕ) → k < l.head-index → get_or l.head-items k 0 ≡ 0

-- the places so far stand in their homes
abbrev pub invariant-loop-place : goal.invariant-loop-place
invariant-loop-place l = record {
  same : SameGraph l.fn.nodes.items l.nodes.items;
  chained : Chained l.vars l.nodes.items l.heads.items l.free (λ r. r < l.place);
}
