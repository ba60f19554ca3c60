use Rattle.std.proofs.Common.{◌<◌}
use Rattle.bdd_store.specs.Chains.{InChain}
use Rattle.bdd_store.proofs.chains.last_above.Given as goal

-- the chain leads here, and this is above the place
abbrev pub invariant-loop-at : goal.invariant-loop-at
invariant-loop-at l = record {
  within : InChain l.nodes l.start l.at;
  above : l.place < l.at;
}

abbrev pub decreases-loop-at : goal.decreases-loop-at
decreases-loop-at l = l.at
