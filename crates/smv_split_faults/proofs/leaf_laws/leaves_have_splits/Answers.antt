use Rattle.law_splits.proofs.Splits.{is_split}
use Rattle.smv_split_faults.proofs.NoneLeft.{none_left}
use Rattle.smv_split_faults.proofs.leaf_laws.leaves_have_splits.Goals as goal

pub returns : goal.returns
returns c d read none choices entry h = is_split d read (none_left d none) choices entry h
