use Rattle.smv_unit_tables.proofs.UnitLaws.{noted_more}
use Rattle.smv_unit_tables.proofs.units.UnitTable.of.Goals as goal

pub loop-place-preserved : goal.loop-place-preserved
loop-place-preserved c = noted_more c.args.design.now c.args.units.now c.loop-place.place _ c.loop-place.table c.note.new.self c.loop-place-test.true c.loop-place.invariant c.in_ok-note.ensures
