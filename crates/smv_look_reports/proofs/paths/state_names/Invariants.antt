use Rattle.std.specs.Prelude.{◌≡◌, ◌++◌, length}
use Rattle.law_read_reports.specs.Shown.{value_names}
use Rattle.smv_look_reports.proofs.paths.state_names.Given as goal

abbrev pub invariant-loop-elements : goal.invariant-loop-elements
invariant-loop-elements l = l.names ++ value_names l.design l.elements l.values ≡ value_names l.design l.initial.elements l.initial.values

abbrev pub decreases-loop-elements : goal.decreases-loop-elements
decreases-loop-elements l = length l.elements
