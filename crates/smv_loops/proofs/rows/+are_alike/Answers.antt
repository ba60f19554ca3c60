use Rattle.smv_loops.proofs.RowLaws.{alike-split}
use Rattle.smv_loops.proofs.rows.+are_alike.Goals as goal

pub returns-else-not-is_alike : goal.returns-else-not-is_alike
returns-else-not-is_alike t c = λ same.
    alike-split c.args.left.now c.args.right.now _ _ c.in-len1-up.len_at_least c.in-len1-up-right.len_at_least (c.is_alike.ensures c.if-not-is_alike.false) (c.are_alike.ensures same)
