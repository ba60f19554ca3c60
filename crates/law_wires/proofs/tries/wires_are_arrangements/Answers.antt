use Rattle.law_wires.proofs.Wired.{left_may_go, wires_arrange}
use Rattle.law_wires.proofs.tries.wires_are_arrangements.Goals as goal

pub returns-clause-left : goal.returns-clause-left
returns-clause-left c case done x left each = left_may_go case done x left each

pub returns-clause-arranged : goal.returns-clause-arranged
returns-clause-arranged c case order is done among apart determined = wires_arrange case order is done among apart determined
