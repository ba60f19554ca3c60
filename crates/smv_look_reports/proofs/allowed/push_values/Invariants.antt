use Rattle.std.specs.Prelude.{◌≡◌, ◌++◌, drop, map}
use Rattle.law_reports.specs.Lines.{with_commas}
use Rattle.law_read_reports.specs.Shown.{value_name}
use Rattle.smv_report_lines.proofs.Parts.{behind}
use Rattle.smv_look_reports.proofs.allowed.push_values.Given as goal

abbrev pub invariant-loop-value : goal.invariant-loop-value
invariant-loop-value l = l.out.items ++ behind l.separator (map (value_name l.design l.x) (drop l.value-index l.values)) ≡ l.initial.out.items ++ with_commas (map (value_name l.design l.x) l.values)
