use Rattle.std.proofs.Common.{ℕ, ◌<◌}
use Rattle.bdd_store.specs.Chains.{InChain, Matches}
use Rattle.bdd_store.proofs.chains.find.Given as goal

-- the chain leads here, and the node that is looked for lies ahead
abbrev pub invariant-loop-at : goal.invariant-loop-at
invariant-loop-at l = record {
  within : InChain l.nodes l.start l.at;
  ahead : (r : ℕ) → 0 < r → InChain l.nodes l.start r → Matches l.nodes r l.var l.low l.high → InChain l.nodes l.at r;
}

abbrev pub decreases-loop-at : goal.decreases-loop-at
decreases-loop-at l = l.at
