use Rattle.std.proofs.Common.{map, take}
use Rattle.bdd_store.specs.Diagram.{table}
use Rattle.smv_rings.specs.Lists.{AllCurrent}
use Rattle.bdd_tests.proofs.cases.are_current.Given as goal

abbrev pub invariant-loop-f : goal.invariant-loop-f
invariant-loop-f l = AllCurrent (map (table l.store) (take l.f-index l.fs))
