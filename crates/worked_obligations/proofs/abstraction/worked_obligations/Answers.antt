-- By computing.
use Rattle.std.proofs.Common.{refl}
use Rattle.law_obligations.proofs.Computing.{computing}
use Rattle.worked_obligations.proofs.abstraction.worked_obligations.Goals as goal

pub returns-clause-split_helps : goal.returns-clause-split_helps
unfolding computing
returns-clause-split_helps c = (refl, refl)

pub returns-clause-order_is_total : goal.returns-clause-order_is_total
unfolding computing
returns-clause-order_is_total c = (refl, refl, refl)

pub returns-clause-split_orders : goal.returns-clause-split_orders
unfolding computing
returns-clause-split_orders c = (refl, refl, refl, refl)

pub returns-clause-reductions : goal.returns-clause-reductions
unfolding computing
returns-clause-reductions c = (refl, refl)

pub returns-clause-written_index : goal.returns-clause-written_index
unfolding computing
returns-clause-written_index c = (refl, refl, refl, refl)

pub returns-clause-each_other : goal.returns-clause-each_other
unfolding computing
returns-clause-each_other c = (refl, refl)

pub returns-clause-mutual_maps : goal.returns-clause-mutual_maps
unfolding computing
returns-clause-mutual_maps c = (refl, refl, refl, refl, refl)

pub returns-clause-certain_maps : goal.returns-clause-certain_maps
unfolding computing
returns-clause-certain_maps c = (refl, refl, refl, refl, refl)
