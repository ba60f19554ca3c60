use Rattle.std.proofs.Common.{◌≡◌, ◌++◌, drop}
use Rattle.std.specs.List.{flat_map}
use Rattle.smv_path_tables.specs.Tables.{table, tables}
use Rattle.smv_path_tables.proofs.tables.path_tables.Given as goal

abbrev pub invariant-loop-unit : goal.invariant-loop-unit
invariant-loop-unit l = l.out.items ++ flat_map table (drop l.unit-index l.units) ≡ tables l.units
