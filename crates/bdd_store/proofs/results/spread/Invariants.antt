use Rattle.std.proofs.Common.{◌≤◌}
use Rattle.std.specs.Prelude.{vec_len}
use Rattle.bdd_store.specs.Diagram.{Diagram, IsReduced}
use Rattle.bdd_store.specs.Results.{AreResults}
use Rattle.bdd_store.proofs.results.spread.Given as goal

abbrev pub invariant-loop-at : goal.invariant-loop-at
invariant-loop-at l = record {
  room : l.has ≤ vec_len l.results;
  right : (d : Diagram) → IsReduced d → AreResults d l.fn.results.items → AreResults d l.results.items;
}
