use Rattle.std.proofs.Common.{◌<◌, length, arith, rules}
use Rattle.smv_io.proofs.Fronts.{on_err, took_front, one_more}
use Rattle.smv_io.proofs.sink.write_all.Goals as goal

pub returns-in_err-count-clause-front : goal.returns-in_err-count-clause-front
returns-in_err-count-clause-front g c =
    let d = c.loop-rest.invariant.done in
    let more : 0 < length c.loop-rest.rest.now = search rules in
    on_err _ _ (took_front _ d.0 _ _ _ _ more d.1 d.2 c.in_err-count.ensures.bytes)

pub loop-rest-preserved : goal.loop-rest-preserved
loop-rest-preserved g c =
    let d = c.loop-rest.invariant.done in
    record { later = omega (arith, c.write.ensures.later); done = one_more _ d.0 _ _ _ _ _ _ d.1 d.2 c.in_ok-count.ensures.bytes c.split_at.ensures.back }
