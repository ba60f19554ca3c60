use Rattle.law_designs.proofs.Faultless.{no_fault-in}
use Rattle.law_splits.specs.SplitFaults.{faults_of_splits}
use Rattle.law_valid_texts.specs.Joined.{flat_design}
use Rattle.law_valid_texts.proofs.plans_of_texts.faultless_texts_pass.Goals as goal

pub returns : goal.returns
returns c tree faultless = record { kinds = faultless.kinds; single = faultless.single; design = faultless.design; splits = no_fault-in (faults_of_splits (flat_design tree)) faultless.splits }
