use Rattle.std.proofs.Common.{◌≡◌}
use Rattle.smv_mentions.specs.FirstFault.{first_of}
use Rattle.smv_first_fault.specs.Firsts.{earlier_of}
use Rattle.smv_cases.specs.Slots.{classes_of}
use Rattle.smv_read_design.specs.Widths.{faults_in}
use Rattle.smv_read_design.proofs.FirstLaws.{cases_from}
use Rattle.smv_read_design.proofs.widths.cases_width.Given as goal

abbrev pub invariant-loop-place : goal.invariant-loop-place
invariant-loop-place l = earlier_of l.found (cases_from l.design l.leaf l.choice l.cases l.place) ≡ first_of (faults_in l.design l.leaf l.choice (classes_of l.cases))
