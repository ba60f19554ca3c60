use Rattle.std.proofs.Common.{arith}
use Rattle.smv_obligations.proofs.TimeLaws.{further, over-times}
use Rattle.smv_obligations.proofs.demands.family_time.Goals as goal

pub returns-then-place-times : goal.returns-then-place-times
returns-then-place-times c = over-times c.args.picks.now c.args.times.now c.args.family c.loop-place.place _ (omega arith) c.loop-place.invariant

pub loop-place-preserved : goal.loop-place-preserved
loop-place-preserved c = further c.args.picks.now c.args.times.now c.args.family c.loop-place.place _ _ (omega arith) (omega arith) c.if-picks-place.false c.loop-place.invariant
