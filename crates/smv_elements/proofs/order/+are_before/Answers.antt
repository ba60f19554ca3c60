use Rattle.std.proofs.Common.{arith}
use Rattle.smv_elements.proofs.Keys.{none-before}
use Rattle.smv_elements.proofs.order.+are_before.Goals as goal

pub returns-in-len1-up-ds : goal.returns-in-len1-up-ds
returns-in-len1-up-ds t c =
    let few = c.in-empty.len_below in
    let some = c.in-len1-up-ds.len_at_least in
    none-before c.args.cs.now c.args.ds.now (omega (arith, few)) (omega (arith, some))
