use Rattle.std.proofs.Common.{◌+◌, length, drop, ap, arith}
use Rattle.law_translated_texts.specs.Translation.{Placed}
use Rattle.smv_ltl.proofs.WritingLaws.{length-with-own}
use Rattle.smv_ltl.proofs.writer.append_own.Goals as goal

pub returns-clause-fits : goal.returns-clause-fits
returns-clause-fits c =
    let from = c.args.from in
    let bytes = c.args.bytes.now in
    let n = c.loop-n.n in
    let same = ap (λ (l : Placed). length l) c.loop-n.invariant in
    omega (arith, same, length-with-own c.loop-n.out.items (from + n) (drop n bytes), length-with-own c.args.out.now.items from bytes, c.in_ok-check_room.ensures.ok)
