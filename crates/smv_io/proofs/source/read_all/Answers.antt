use Rattle.std.proofs.Common.{arith}
use Rattle.smv_io.proofs.Fronts.{gave_beyond, gave_within}
use Rattle.smv_io.proofs.source.read_all.Goals as goal

pub returns-then-count-limit-clause-left_too_long : goal.returns-then-count-limit-clause-left_too_long
returns-then-count-limit-clause-left_too_long g c =
    let came = c.in_ok-count.ensures in
    λ _. gave_beyond _ _ _ _ _ _ _ c.loop-bytes.invariant.taken came.bytes.0 came.bound.0
    (omega (arith, c.if-count-limit.true, c.len.ensures, c.loop-bytes.bytes.ok))

pub returns-in_err-extend_from_slice-clause-left_out_of_memory : goal.returns-in_err-extend_from_slice-clause-left_out_of_memory
returns-in_err-extend_from_slice-clause-left_out_of_memory g c =
    let came = c.in_ok-count.ensures in
    λ _. gave_within _ _ _ _ _ _ _ c.loop-bytes.invariant.taken came.bytes.0 came.bound.0
    (omega (arith, c.loop-bytes.invariant.within, c.loop-bytes.bytes.ok))
    (omega (arith, c.if-count-limit.false, c.len.ensures, c.loop-bytes.bytes.ok))
