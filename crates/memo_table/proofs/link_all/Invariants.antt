use Rattle.std.proofs.Common.{◌≡◌, length}
use Rattle.memo_table.specs.Table.{Chained, SameResults}
use Rattle.memo_table.proofs.link_all.Given as goal

-- the entries so far stand in their chains
abbrev pub invariant-loop-i : goal.invariant-loop-i
invariant-loop-i l = record {
  chained : Chained (length l.fn.heads.items) l.entries.items l.heads.items l.i;
  same : SameResults l.fn.entries.items l.entries.items;
  len : length l.heads.items ≡ length l.fn.heads.items;
}
