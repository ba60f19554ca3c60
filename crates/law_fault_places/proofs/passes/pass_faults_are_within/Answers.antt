use Rattle.smv_mentions.specs.FirstFault.{first_fault}
use Rattle.law_designs.specs.KindFaults.{first_fault_of_kinds}
use Rattle.law_designs.specs.Flattening.{flatten}
use Rattle.law_designs.specs.SingleFaults.{first_fault_of_single}
use Rattle.law_designs.specs.FirstFault.{first_fault_of_design}
use Rattle.law_designs.specs.SetFaults.{first_fault_of_sets}
use Rattle.law_splits.specs.SplitFaults.{first_fault_of_splits}
use Rattle.law_uses.specs.UseFaults.{first_fault_of_uses}
use Rattle.law_valid_texts.specs.Joined.{flat_design}
use Rattle.law_valid_texts.specs.Faults.{pass_fault}
use Rattle.law_fault_places.proofs.PassLaws.{passes-within}
use Rattle.law_fault_places.proofs.passes.pass_faults_are_within.Goals as goal

pub returns : goal.returns
unfolding pass_fault
returns c = λ n tree h.
    let flat_text = c.flattened_texts_are_within.ensures n tree h in
    let design = c.designs_are_within.ensures n (flatten tree) flat_text in
    passes-within n (first_fault tree) (first_fault_of_kinds tree) (first_fault_of_single (flatten tree)) (first_fault_of_design (flat_design tree)) (first_fault_of_sets (flatten tree))
    (first_fault_of_splits (flat_design tree)) (first_fault_of_uses (flat_design tree)) (flat_design tree) design
    (c.name_faults_are_within.ensures n tree h) (c.kind_faults_are_within.ensures n tree h) (c.single_faults_are_within.ensures n (flatten tree) flat_text)
    (c.design_faults_are_within.ensures n (flat_design tree) design) (c.set_faults_are_within.ensures n (flatten tree) flat_text) (c.split_faults_are_within.ensures n (flat_design tree) design)
    (c.use_faults_are_within.ensures n (flat_design tree) design)
