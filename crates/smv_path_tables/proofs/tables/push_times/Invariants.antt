use Rattle.std.proofs.Common.{◌≡◌, ◌++◌, drop}
use Rattle.smv_path_tables.specs.Tables.{time_cells}
use Rattle.smv_path_tables.proofs.tables.push_times.Given as goal

abbrev pub invariant-loop-time : goal.invariant-loop-time
invariant-loop-time l = l.out.items ++ time_cells l.width l.time (drop l.time l.states) ≡ l.initial.out.items ++ time_cells l.width 0 l.states
