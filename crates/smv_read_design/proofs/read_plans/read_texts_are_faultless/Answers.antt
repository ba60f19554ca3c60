-- Pass by pass.
use Rattle.law_flat_kinds.proofs.NoFaults.{none-both}
use Rattle.smv_mentions.specs.FirstFault.{first_fault, first_of, or_else}
use Rattle.law_designs.specs.KindFaults.{first_fault_of_kinds}
use Rattle.law_designs.specs.Flattening.{flatten}
use Rattle.law_designs.specs.SingleFaults.{first_fault_of_single}
use Rattle.law_designs.specs.FirstFault.{first_fault_of_design}
use Rattle.law_designs.specs.SetFaults.{first_fault_of_sets}
use Rattle.law_splits.specs.SplitFaults.{first_fault_of_splits}
use Rattle.law_uses.specs.UseFaults.{first_fault_of_uses}
use Rattle.smv_front.specs.Plans.{plan_fault}
use Rattle.smv_front.specs.TextFault.{design_fault, flat_text_fault, text_fault}
use Rattle.law_valid_texts.specs.Joined.{flat_design}
use Rattle.law_valid_texts.specs.Faults.{faults_of_cases}
use Rattle.smv_read_design.proofs.read_plans.read_texts_are_faultless.Goals as goal

pub returns : goal.returns
unfolding text_fault plan_fault
returns c n tokens tree spelled none =
    let flat_text = flatten tree in
    let d = flat_design tree in
    let behind_cases = first_of (faults_of_cases d) in
    let a = none-both (first_fault tree) (or_else (first_fault_of_kinds tree) (flat_text_fault flat_text)) none in
    let b = none-both (first_fault_of_kinds tree) (flat_text_fault flat_text) a.1 in
    let e = none-both (first_fault_of_single flat_text) (design_fault flat_text) b.1 in
    let f = none-both (first_fault_of_design d) (or_else (first_fault_of_sets flat_text) (plan_fault d)) e.1 in
    let g = none-both (first_fault_of_sets flat_text) (plan_fault d) f.1 in
    let h = none-both (first_fault_of_splits d) (or_else (first_fault_of_uses d) behind_cases) g.1 in
    let i = none-both (first_fault_of_uses d) behind_cases h.1 in
    record { kinds = (n, tokens, spelled, a.0, b.0); single = e.0; design = f.0; sets = g.0; splits = h.0; uses = i.0; cases = i.1 }
