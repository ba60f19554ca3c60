use Rattle.std.proofs.Common.{◌≡◌, ℕ, ◌≤◌, ◌*◌, ◌⊎◌, ◌++◌, List, map, length, drop}
use Rattle.bdd_store.specs.declared.Ref.{Ref}
use Rattle.bdd_store.specs.Diagram.{table}
use Rattle.bdd_ops.specs.Functions.{Function}
use Rattle.smv_rings.specs.Ops.{IsOneOf, refs_in_all, back_acts, AreMarked, joins_onto}
use Rattle.smv_rings.proofs.ops.add_joins.Given as goal

abbrev pub invariant-loop-left : goal.invariant-loop-left
invariant-loop-left l = record {
  within : l.left ≤ length l.fs;
  count : length l.read.items ≡ 2 * l.bits;
  read : (later : List Function) → AreMarked (2 * l.bits) later l.initial.read.items → AreMarked (2 * l.bits) (map (table l.store) (drop l.left l.fs) ++ later) l.read.items;
  acts : (later : List Function) → AreMarked (2 * l.bits) later l.initial.read.items → (k : ℕ) → back_acts l.store k l.ops.items ≡ joins_onto l.bits (map (table l.store) (drop l.left l.fs)) later (back_acts l.store k l.initial.ops.items);
  refs : (r : Ref) → IsOneOf r (refs_in_all l.ops.items) → IsOneOf r (refs_in_all l.initial.ops.items) ⊎ IsOneOf r l.fs;
}

abbrev pub decreases-loop-left : goal.decreases-loop-left
decreases-loop-left l = l.left
