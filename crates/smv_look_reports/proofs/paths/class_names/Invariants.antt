use Rattle.std.specs.Prelude.{◌≡◌, ◌++◌, length}
use Rattle.law_reports.specs.Lines.{classes_text}
use Rattle.smv_look_reports.proofs.paths.class_names.Given as goal

abbrev pub invariant-loop-params : goal.invariant-loop-params
invariant-loop-params l = l.names ++ classes_text l.design l.params l.classes ≡ classes_text l.design l.initial.params l.initial.classes

abbrev pub decreases-loop-params : goal.decreases-loop-params
decreases-loop-params l = length l.params
