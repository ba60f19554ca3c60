use Rattle.law_moved_sets.proofs.Moved.{order_keeps}
use Rattle.law_moved_sets.proofs.orders_keep_induction.Goals as goal

pub returns : goal.returns
returns c case is order o set below = order_keeps case is order o set below
