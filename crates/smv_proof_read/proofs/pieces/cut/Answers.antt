use Rattle.std.proofs.Common.{◌≡◌, ◌<◌, length, get_or, true, nat_eq, sym, arith}
use Rattle.std.proofs.lemmas.Bool.Decides.{nat_tests}
use Rattle.smv_proof_read.proofs.Cuts.{cut_found, cut_nowhere}
use Rattle.smv_proof_read.proofs.pieces.cut.Goals as goal

pub returns-then-bytes-place-clause-cut : goal.returns-then-bytes-place-clause-cut
returns-then-bytes-place-clause-cut c =
    let lt : c.loop-place.place < length c.args.bytes.now = omega (arith, c.loop-place-test.true) in
    let here : nat_eq (get_or c.args.bytes.now c.loop-place.place 0) c.args.at ≡ true = grind (arith, nat_tests, c.if-bytes-place.true) in
    cut_found c.args.at c.args.bytes.now c.loop-place.place lt here c.loop-place.invariant

pub returns-clause-cut : goal.returns-clause-cut
returns-clause-cut c = sym (cut_nowhere c.args.at c.args.bytes.now c.loop-place.place (omega (arith, c.loop-place-test.false)) c.loop-place.invariant)
