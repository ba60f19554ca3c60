use Rattle.std.proofs.Common.{ℕ, ◌<◌}
use Rattle.bdd_store.specs.Diagram.{Diagram, IsReduced}
use Rattle.bdd_store.specs.Results.{IsResult, entry_at}
use Rattle.bdd_store.proofs.results.forget.Given as goal

abbrev pub invariant-loop-entry : goal.invariant-loop-entry
invariant-loop-entry l = (d : Diagram) → IsReduced d → (k : ℕ) → k < l.entry-index → IsResult d (entry_at l.entry-items k).operation (entry_at l.entry-items k).answer
