use Rattle.std.proofs.Common.{take}
use Rattle.smv_unit_tables.specs.Units.{AreNoted}
use Rattle.smv_unit_tables.proofs.units.UnitTable.of.Given as goal

abbrev pub invariant-loop-place : goal.invariant-loop-place
invariant-loop-place l = AreNoted l.design (take l.place l.units) l.table
