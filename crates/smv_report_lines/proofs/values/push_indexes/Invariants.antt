use Rattle.std.specs.Prelude.{◌≡◌, ◌++◌, length}
use Rattle.law_reports.specs.Lines.{indexes_text}
use Rattle.smv_report_lines.proofs.values.push_indexes.Given as goal

abbrev pub invariant-loop-types : goal.invariant-loop-types
invariant-loop-types l = l.out.items ++ indexes_text l.design l.types l.indexes ≡ l.initial.out.items ++ indexes_text l.design l.initial.types l.initial.indexes

abbrev pub decreases-loop-types : goal.decreases-loop-types
decreases-loop-types l = length l.types
