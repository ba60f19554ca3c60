use Rattle.std.proofs.Common.{◌≡◌, List, length, ◌<◌, ◌∙◌, ap, arith}
use Rattle.memo_table.specs.declared.Entry.{Entry}
use Rattle.memo_table.specs.Table.{kept}
use Rattle.memo_table.proofs.TableLaws.{kept_all}
use Rattle.memo_table.proofs.grow.Goals as goal
use Rattle.memo_table.proofs.grow.Goals.{then-len-eq0, else-len-eq0}

pub returns-clause-same : goal.returns-clause-same
returns-clause-same c =
    kept_all _ _ c.link_all.ensures.same ∙ ap (λ (es : List Entry). kept es (length es)) c.in_ok-reserve.ensures.items

pub link_all-requires-clause-room : goal.link_all-requires-clause-room
link_all-requires-clause-room c = elim c.if-len-eq0.branch [
  | then-len-eq0 w ↦ let none : length c.args.heads.now.items ≡ 0 = omega (arith, w.if-len-eq0.true, c.len-len.ensures) in let few = c.requires.table.small none in let same = ap length c.in_ok-reserve.ensures.items in omega (arith, few, w.wide-is, c.in_ok-fresh.ensures.len, same)
  | else-len-eq0 w ↦ let pos : 0 < length c.args.heads.now.items = omega (arith, w.if-len-eq0.false, c.len-len.ensures) in let few = c.requires.table.room pos in let same = ap length c.in_ok-reserve.ensures.items in omega (arith, few, w.wide-is, c.in_ok-fresh.ensures.len, same)
]
