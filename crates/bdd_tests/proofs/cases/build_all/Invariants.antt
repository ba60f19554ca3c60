use Rattle.bdd_store.specs.Diagram.{AreLive, Keeps}
use Rattle.bdd_tests.proofs.cases.build_all.Given as goal

abbrev pub invariant-loop-law : goal.invariant-loop-law
invariant-loop-law l = record {
  live : AreLive l.store l.all.items;
  keeps : Keeps l.initial.store l.store;
}
