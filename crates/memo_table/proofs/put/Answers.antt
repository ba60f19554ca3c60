use Rattle.std.proofs.Common.{List, length, ◌∙◌, ap}
use Rattle.memo_table.specs.declared.Entry.{Entry}
use Rattle.memo_table.specs.Table.{kept}
use Rattle.memo_table.proofs.TableLaws.{kept_push}
use Rattle.memo_table.proofs.put.Goals as goal

pub returns-clause-ok : goal.returns-clause-ok
returns-clause-ok c =
    ap (λ (es : List Entry). kept es (length es)) c.in_ok-push-2.ensures.items ∙ kept_push c.args.entries.now.items _

pub returns-then-len-eq0-clause-ok : goal.returns-then-len-eq0-clause-ok
returns-then-len-eq0-clause-ok c =
    ap (λ (es : List Entry). kept es (length es)) c.in_ok-push.ensures.items ∙ kept_push c.args.entries.now.items _
