use Rattle.std.proofs.Common.{length}
use Rattle.bdd_store.specs.Diagram.{AreLive}
use Rattle.bdd_client.proofs.machine.counts.Given as goal

-- each function that was made is live
abbrev pub invariant-loop-rest : goal.invariant-loop-rest
invariant-loop-rest l = AreLive l.store l.made.items

abbrev pub decreases-loop-rest : goal.decreases-loop-rest
decreases-loop-rest l = length l.rest
