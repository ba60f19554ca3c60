use Rattle.smv_mentions.specs.FirstFault.{first_fault, first_of}
use Rattle.law_designs.specs.KindFaults.{first_fault_of_kinds}
use Rattle.law_designs.specs.Flattening.{flatten}
use Rattle.law_designs.specs.SingleFaults.{first_fault_of_single}
use Rattle.law_designs.specs.FirstFault.{first_fault_of_design}
use Rattle.law_designs.specs.SetFaults.{first_fault_of_sets}
use Rattle.law_splits.specs.SplitFaults.{first_fault_of_splits}
use Rattle.law_uses.specs.UseFaults.{first_fault_of_uses}
use Rattle.smv_front.specs.Plans.{plan_fault}
use Rattle.smv_front.specs.TextFault.{text_fault}
use Rattle.law_valid_texts.specs.Joined.{flat_design}
use Rattle.law_valid_texts.specs.Faults.{faults_of_cases, faults_of_widths, pass_fault}
use Rattle.smv_read_design.proofs.Order.{nested}
use Rattle.smv_read_design.proofs.read_plans.widths_are_last.Goals as goal

pub returns : goal.returns
unfolding pass_fault text_fault plan_fault
returns c tree =
    let d = flat_design tree in
    nested (first_fault tree) (first_fault_of_kinds tree) (first_fault_of_single (flatten tree)) (first_fault_of_design d) (first_fault_of_sets (flatten tree)) (first_fault_of_splits d)
    (first_fault_of_uses d) (first_of (faults_of_cases d)) (first_of (faults_of_widths d))
