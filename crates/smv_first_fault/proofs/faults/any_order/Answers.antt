use Rattle.smv_first_fault.proofs.FirstLaws.{earlier-comm, earlier-assoc}
use Rattle.smv_first_fault.proofs.faults.any_order.Goals as goal

pub returns : goal.returns
returns c = (earlier-comm, earlier-assoc)
