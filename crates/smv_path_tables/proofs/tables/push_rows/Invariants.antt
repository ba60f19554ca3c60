use Rattle.std.proofs.Common.{◌≡◌, ◌++◌, drop}
use Rattle.smv_path_tables.specs.Tables.{rows}
use Rattle.smv_path_tables.proofs.tables.push_rows.Given as goal

abbrev pub invariant-loop-place : goal.invariant-loop-place
invariant-loop-place l = l.out.items ++ rows l.names l.width l.place l.unit.states (drop l.place l.unit.elements) ≡ l.initial.out.items ++ rows l.names l.width 0 l.unit.states l.unit.elements
