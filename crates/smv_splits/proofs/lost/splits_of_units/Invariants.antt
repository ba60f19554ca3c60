use Rattle.std.proofs.Common.{◌≡◌, ◌++◌, drop}
use Rattle.std.specs.List.{flat_map}
use Rattle.smv_splits.specs.Groups.{splits_of_unit}
use Rattle.smv_splits.proofs.lost.splits_of_units.Given as goal

abbrev pub invariant-loop-unit : goal.invariant-loop-unit
invariant-loop-unit l = l.out.items ++ flat_map (splits_of_unit l.tables.design.now l.tables.named) (drop l.unit-index l.units) ≡ flat_map (splits_of_unit l.tables.design.now l.tables.named) l.units
