use Rattle.smv_bit_order.proofs.levels.+level_of.Given as goal

abbrev pub decreases-level_of : goal.decreases-level_of
decreases-level_of l = l.most
