use Rattle.std.specs.List.{All}
use Rattle.smv_loops.specs.Rows.{IsRow}
use Rattle.smv_loops.proofs.rows.rows_read.Given as goal

abbrev pub invariant-loop-x : goal.invariant-loop-x
invariant-loop-x l = All (IsRow l.families) l.rows.items

abbrev pub invariant-loop-read : goal.invariant-loop-read
invariant-loop-read l = All (IsRow l.families) l.rows.items
