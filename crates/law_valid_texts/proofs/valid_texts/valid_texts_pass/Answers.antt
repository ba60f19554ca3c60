-- Pass by pass.
use Rattle.smv_mentions.specs.FirstFault.{first_fault, first_of}
use Rattle.law_designs.specs.KindFaults.{first_fault_of_kinds}
use Rattle.law_designs.specs.Flattening.{flatten}
use Rattle.law_designs.specs.SingleFaults.{first_fault_of_single}
use Rattle.law_designs.specs.FirstFault.{first_fault_of_design}
use Rattle.law_designs.specs.SetFaults.{first_fault_of_sets}
use Rattle.law_designs.proofs.Faultless.{no_fault-in}
use Rattle.law_splits.specs.SplitFaults.{faults_of_splits, first_fault_of_splits}
use Rattle.law_uses.specs.UseFaults.{first_fault_of_uses}
use Rattle.law_valid_texts.specs.Joined.{flat_design}
use Rattle.law_valid_texts.specs.Plans.{levels}
use Rattle.law_valid_texts.specs.Faults.{faults_of_cases, faults_of_widths, pass_fault}
use Rattle.law_valid_texts.proofs.Plans.{all_absent}
use Rattle.law_valid_texts.proofs.valid_texts.valid_texts_pass.Goals as goal

pub returns : goal.returns
unfolding pass_fault
returns c text tree valid =
    let d = flat_design tree in
    let absent =
    all_absent (first_fault tree) (first_fault_of_kinds tree) (first_fault_of_single (flatten tree)) (first_fault_of_design d) (first_fault_of_sets (flatten tree)) (first_fault_of_splits d)
    (first_fault_of_uses d) (first_of (faults_of_cases d)) (first_of (faults_of_widths d)) valid.is_faultless in
    record {
      kinds = (levels, valid.is_tree.spelled.0, valid.is_tree.spelled.2, absent.0, absent.1);
      single = absent.2;
      design = absent.3;
      splits = no_fault-in (faults_of_splits d) absent.5;
    }
