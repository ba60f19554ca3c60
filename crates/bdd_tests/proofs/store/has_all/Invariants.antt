use Rattle.bdd_store.specs.Diagram.{IsLive}
use Rattle.bdd_tests.proofs.store.has_all.Given as goal

abbrev pub invariant-loop-var : goal.invariant-loop-var
invariant-loop-var l = IsLive l.store l.at
