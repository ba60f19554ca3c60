use Rattle.std.proofs.Common.{◌<◌, ◌≤◌, ℕ, length}
use Rattle.memo_table.proofs.TableLaws.{IsKey}
use Rattle.memo_table.proofs.find_among.Given as goal

-- no entry from this one on has the pair
abbrev pub invariant-loop-at : goal.invariant-loop-at
invariant-loop-at l = record {
  within : l.at ≤ length l.entries;
  absent : (j : ℕ) → l.at ≤ j → j < length l.entries → IsKey l.entries j (l.first, l.second) → ⊥;
}

abbrev pub decreases-loop-at : goal.decreases-loop-at
decreases-loop-at l = l.at
