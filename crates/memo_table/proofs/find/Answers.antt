use Rattle.std.proofs.Common.{◌-◌, length, sym, ◌∙◌, arith}
use Rattle.memo_table.proofs.TableLaws.{ref_is, kept_found, kept_absent}
use Rattle.memo_table.proofs.find.Goals as goal

pub returns-then-eq-2 : goal.returns-then-eq-2
returns-then-eq-2 c =
    let es = c.args.entries.now in
    let loop = c.loop-at.invariant in
    let pos = c.loop-at-test.true in
    sym (kept_found es (length es) (c.loop-at.at - 1) (c.args.first, c.args.second) (omega (arith, loop.within, pos))
    (ref_is _ _ (sym c.eq.ensures ∙ c.if-eq.true), ref_is _ _ (sym c.eq-then-eq.ensures ∙ c.if-eq-2.true))
    (λ j from to. loop.absent j (omega (arith, from)) to))

pub returns : goal.returns
returns c =
    let es = c.args.entries.now in
    sym (kept_absent es (length es) (c.args.first, c.args.second) (λ j lt. c.loop-at.invariant.absent j (omega (arith, c.loop-at-test.false)) lt))
