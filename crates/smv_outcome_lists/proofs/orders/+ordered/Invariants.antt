use Rattle.smv_outcome_lists.proofs.orders.+ordered.Given as goal

abbrev pub decreases-ordered : goal.decreases-ordered
decreases-ordered g l = l.half
