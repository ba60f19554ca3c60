use Rattle.std.proofs.Common.{◌≡◌, ◌++◌, ◌-◌}
use Rattle.smv_path_tables.specs.Tables.{blanks}
use Rattle.smv_path_tables.proofs.tables.push_blanks.Given as goal

abbrev pub invariant-loop-index : goal.invariant-loop-index
invariant-loop-index l = l.out.items ++ blanks (l.count - l._index) ≡ l.initial.out.items ++ blanks l.count
