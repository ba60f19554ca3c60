use Rattle.bdd_store.specs.Diagram.{IsLive}
use Rattle.smv_posed.proofs.bits.value_at.Given as goal

abbrev pub invariant-loop : goal.invariant-loop
invariant-loop l = IsLive l.store l.at
