use Rattle.std.proofs.Common.{◌≡◌, ℕ, ◌<◌, ◌≤◌, length}
use Rattle.bdd_store.specs.Diagram.{AreLive, first_var, ref_at}
use Rattle.bdd_tests.proofs.store.add_layer.Given as goal

-- all functions are live, and the first ones depend on later variables
abbrev pub invariant-loop-i : goal.invariant-loop-i
invariant-loop-i l = record {
  len : l.len ≤ length l.all.items;
  vars : l.store.vars ≡ l.fn.store.vars;
  live : AreLive l.store l.all.items;
  later : (i : ℕ) → i < length l.all.items → l.var ≤ first_var l.store (ref_at l.all.items i);
  earlier : (i : ℕ) → i < l.len → l.var < first_var l.store (ref_at l.all.items i);
}
