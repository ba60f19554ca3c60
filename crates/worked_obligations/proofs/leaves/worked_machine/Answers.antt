use Rattle.std.proofs.Common.{refl}
use Rattle.law_obligations.proofs.Computing.{computing}
use Rattle.worked_obligations.specs.WorkedLeaves.{split_machine}
use Rattle.law_splits.proofs.Splits.{is_split}
use Rattle.worked_obligations.proofs.WorkedRead.{is_read, names_apart}
use Rattle.worked_obligations.proofs.leaves.worked_machine.Goals as goal

pub returns : goal.returns
unfolding computing
returns c = (is_read, names_apart, λ choices entry h. is_split split_machine is_read refl choices entry h)
