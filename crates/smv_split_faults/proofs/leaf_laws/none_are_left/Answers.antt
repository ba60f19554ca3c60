use Rattle.smv_split_faults.proofs.NoneLeft.{none_left}
use Rattle.smv_split_faults.proofs.leaf_laws.none_are_left.Goals as goal

pub returns : goal.returns
returns c d e = none_left d e
