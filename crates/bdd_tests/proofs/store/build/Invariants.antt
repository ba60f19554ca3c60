use Rattle.std.proofs.Common.{◌≡◌, ℕ, ◌-◌, ◌<◌, ◌≤◌, length}
use Rattle.bdd_store.specs.Diagram.{AreLive, first_var, ref_at}
use Rattle.bdd_tests.proofs.store.build.Given as goal

-- all functions are live, and depend on the variables that are done
abbrev pub invariant-loop-step : goal.invariant-loop-step
invariant-loop-step l = record {
  vars : l.store.vars ≡ l.vars;
  live : AreLive l.store l.all.items;
  later : (i : ℕ) → i < length l.all.items → l.vars - l.step ≤ first_var l.store (ref_at l.all.items i);
}
