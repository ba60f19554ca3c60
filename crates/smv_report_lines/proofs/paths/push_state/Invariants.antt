use Rattle.std.specs.Prelude.{◌≡◌, ◌++◌, codes, length}
use Rattle.law_reports.specs.Lines.{values_text}
use Rattle.smv_report_lines.proofs.Parts.{behind}
use Rattle.smv_report_lines.proofs.paths.push_state.Given as goal

abbrev pub invariant-loop-elements : goal.invariant-loop-elements
invariant-loop-elements l = l.out.items ++ behind l.separator (values_text l.design l.elements l.values) ≡ l.initial.out.items ++ behind (codes " ") (values_text l.design l.initial.elements l.initial.values)

abbrev pub decreases-loop-elements : goal.decreases-loop-elements
decreases-loop-elements l = length l.elements
