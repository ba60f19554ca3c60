use Rattle.std.proofs.Common.{◌≡◌, ℕ, ◌-◌, ◌<◌, ◌≤◌, length}
use Rattle.memo_table.specs.Table.{bucket_at}
use Rattle.memo_table.proofs.TableLaws.{IsKey}
use Rattle.memo_table.proofs.find.Given as goal

-- no entry from this one on has the pair, and the one before it is of its chain
abbrev pub invariant-loop-at : goal.invariant-loop-at
invariant-loop-at l = record {
  within : l.at ≤ length l.entries;
  here : 0 < l.at → bucket_at (length l.heads) l.entries (l.at - 1) ≡ l.bucket;
  absent : (j : ℕ) → l.at ≤ j → j < length l.entries → IsKey l.entries j (l.first, l.second) → ⊥;
}

abbrev pub decreases-loop-at : goal.decreases-loop-at
decreases-loop-at l = l.at
