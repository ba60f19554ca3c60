use Rattle.smv_first_fault.proofs.FirstLaws.{first-both}
use Rattle.smv_first_fault.proofs.faults.first_of_both.Goals as goal

pub returns : goal.returns
returns c = first-both
