use Rattle.std.proofs.Common.{drop, arith}
use Rattle.smv_use_times.specs.Tables.{outline}
use Rattle.smv_use_times.proofs.ChosenLaws.{front}
use Rattle.smv_use_times.proofs.chosen.chosen.Goals as goal

pub loop-place-preserved : goal.loop-place-preserved
loop-place-preserved c =
    front (outline c.args.tables.now) c.args.picks.now c.args.nodes c.loop-place.place _ c.choose.new.next.items (omega arith) (omega arith)
    (c.choose.ensures (drop c.loop-place.place c.args.picks.now) c.loop-place.invariant)
