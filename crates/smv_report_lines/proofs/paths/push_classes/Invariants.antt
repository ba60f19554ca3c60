use Rattle.std.specs.Prelude.{◌≡◌, ◌++◌, [], length}
use Rattle.law_reports.specs.Lines.{classes_text}
use Rattle.smv_report_lines.proofs.Parts.{behind}
use Rattle.smv_report_lines.proofs.paths.push_classes.Given as goal

abbrev pub invariant-loop-params : goal.invariant-loop-params
invariant-loop-params l = l.out.items ++ behind l.separator (classes_text l.design l.params l.classes) ≡ l.initial.out.items ++ behind [] (classes_text l.design l.initial.params l.initial.classes)

abbrev pub decreases-loop-params : goal.decreases-loop-params
decreases-loop-params l = length l.params
