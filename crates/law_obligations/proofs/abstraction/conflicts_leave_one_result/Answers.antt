use Rattle.law_obligations.proofs.OneGives.{is_single}
use Rattle.law_obligations.proofs.abstraction.conflicts_leave_one_result.Goals as goal

pub returns : goal.returns
returns c n def indexes every free = is_single n def indexes every free
