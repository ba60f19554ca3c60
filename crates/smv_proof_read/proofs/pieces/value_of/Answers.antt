use Rattle.std.proofs.Common.{◌<◌, ◌≤◌, ◌+◌, ◌-◌, ◌*◌, length, get_or, sym, ◌∙◌, arith}
use Rattle.smv_proof.specs.Documents.{most}
use Rattle.smv_proof_read.proofs.Digits.{value_past}
use Rattle.smv_proof_read.proofs.pieces.value_of.Goals as goal

pub returns-then-value-gt-MOST : goal.returns-then-value-gt-MOST
returns-then-value-gt-MOST c =
    let lt : c.loop-digit.digit-index < length c.args.piece.now = omega (arith, c.loop-digit-test.true) in
    let low : 48 ≤ get_or c.args.piece.now c.loop-digit.digit-index 0 = omega (arith, c.if-digit-lt48.false) in
    let high : get_or c.args.piece.now c.loop-digit.digit-index 0 ≤ 57 = omega (arith, c.if-digit-gt57.false) in
    let above : most < c.loop-digit.value * 10 + (get_or c.args.piece.now c.loop-digit.digit-index 0 - 48) = omega (arith, c.from.ensures, c.if-value-gt-MOST.true) in
    sym (c.loop-digit.invariant.from ∙ value_past c.loop-digit.value c.loop-digit.digit-index c.args.piece.now lt low high above)
