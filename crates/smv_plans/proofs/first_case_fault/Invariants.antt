use Rattle.std.proofs.Common.{◌≡◌}
use Rattle.smv_mentions.specs.FirstFault.{first_of}
use Rattle.smv_first_fault.specs.Firsts.{earlier_of}
use Rattle.smv_plans.specs.Plans.{faults_of_cases}
use Rattle.smv_plans.proofs.CaseFaultLaws.{left}
use Rattle.smv_plans.proofs.first_case_fault.Given as goal

abbrev pub invariant-loop-place : goal.invariant-loop-place
invariant-loop-place l = earlier_of l.found (left l.design l.leaves l.choices l.place) ≡ first_of (faults_of_cases l.design l.leaves l.choices)
