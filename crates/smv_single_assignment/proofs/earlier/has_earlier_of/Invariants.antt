use Rattle.std.proofs.Common.{◌≡◌, ◌≤◌, ◌<◌, ◌-◌, ℕ, get_or, false}
use Rattle.std.specs.Prelude.{Some, slice_get}
use Rattle.law_designs.specs.Standing.{Standing}
use Rattle.smv_single_assignment.specs.Clashes.{clashes_of}
use Rattle.smv_single_assignment.specs.Links.{held}
use Rattle.smv_single_assignment.proofs.earlier.has_earlier_of.Given as goal

abbrev pub invariant-loop-end : goal.invariant-loop-end
invariant-loop-end l = record {
  before : l.end ≤ l.place;
  here : 0 < l.end → get_or l.table.classes.items (l.end - 1) 0 ≡ get_or l.table.classes.items l.place 0;
  apart : (k : ℕ) (a b : Standing) → slice_get (held l.table) k ≡ Some a → slice_get (held l.table) l.place ≡ Some b → l.end ≤ k → k < l.middle → clashes_of l.kind l.by b a ≡ false;
}

abbrev pub decreases-loop-end : goal.decreases-loop-end
decreases-loop-end l = l.end
