use Rattle.std.proofs.Common.{◌≡◌, length, drop, arith}
use Rattle.bdd_store.proofs.ResultLaws.{one_more, all_right}
use Rattle.bdd_store.proofs.results.forget.Goals as goal

pub loop-entry-preserved : goal.loop-entry-preserved
loop-entry-preserved c d ok = one_more d c.loop-entry.entry-items c.loop-entry.entry-index _ (omega arith) (c.loop-entry.invariant d ok) (c.never-never.ensures d ok)

pub returns : goal.returns
returns c d ok =
    let xs = c.loop-entry.entry-items in
    let len : c.args.results.now.len ≡ length xs = omega (arith, c.loop-entry.auto.entry-items, c.deref_mut-entry-items.ensures.value, c.deref_mut-entry-items.ensures.len, c.args.results.now.ok.0) in
    all_right d xs (drop (length xs) c.args.results.now.items) _ len (λ k lt. c.loop-entry.invariant d ok k (omega (arith, lt, c.loop-entry.auto.entry-items, c.loop-entry-test.false)))
