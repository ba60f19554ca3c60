use Rattle.std.proofs.Common.{List, length, ap}
use Rattle.memo_table.specs.declared.Entry.{Entry}
use Rattle.memo_table.specs.Table.{kept}
use Rattle.memo_table.proofs.Memo.new.Goals as goal

pub returns : goal.returns
unfolding kept
returns c = record { empty = ap (λ (es : List Entry). kept es (length es)) c.new.ensures.items }
