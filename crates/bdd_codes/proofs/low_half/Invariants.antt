use Rattle.std.proofs.Common.{◌≡◌, ℕ, ◌^◌, ◌≤◌, List, ◌∷◌, length}
use Rattle.bdd_store.specs.Diagram.{AreLive, Keeps}
use Rattle.bdd_codes.specs.Codes.{AreCodes}
use Rattle.bdd_codes.proofs.low_half.Given as goal

abbrev pub invariant-loop-i : goal.invariant-loop-i
invariant-loop-i l = record {
  keeps : Keeps l.initial.store l.store;
  count : length l.codes.items ≡ l.i;
  live : AreLive l.store l.codes.items;
  codes : (lower : List ℕ) → AreCodes l.initial.store l.next lower l.later → length l.later ≤ 2 ^ length lower → AreCodes l.store l.next (l.place ∷ lower) l.codes.items;
}
