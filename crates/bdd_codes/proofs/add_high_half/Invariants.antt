use Rattle.std.proofs.Common.{◌≡◌, ℕ, ◌+◌, ◌^◌, ◌≤◌, List, ◌∷◌, length, min}
use Rattle.bdd_store.specs.Diagram.{AreLive, Keeps}
use Rattle.bdd_codes.specs.Codes.{AreCodes}
use Rattle.bdd_codes.proofs.add_high_half.Given as goal

abbrev pub invariant-loop-i : goal.invariant-loop-i
invariant-loop-i l = record {
  keeps : Keeps l.initial.store l.store;
  count : length l.codes.items ≡ length l.later + l.i;
  live : AreLive l.store l.codes.items;
  few : (width : ℕ) → length l.later ≡ min (2 ^ width) l.most → length l.codes.items ≤ l.most;
  codes : (lower : List ℕ) → length l.later ≡ min (2 ^ length lower) l.most → AreCodes l.initial.store l.next lower l.later → AreCodes l.initial.store l.next (l.place ∷ lower) l.initial.codes.items → AreCodes l.store l.next (l.place ∷ lower) l.codes.items;
}
