use Rattle.std.proofs.Common.{◌≡◌, ◌++◌, map, drop}
use Rattle.smv_choices.specs.Readings.{reading, reading_in}
use Rattle.smv_choices.proofs.readings.all_readings.Given as goal

abbrev pub invariant-loop-using : goal.invariant-loop-using
invariant-loop-using l = map reading l.all.items ++ map (reading_in l.tables.design.now l.leaves) (drop l.using-index l.tables.design.now.uses) ≡ map (reading_in l.tables.design.now l.leaves) l.tables.design.now.uses
