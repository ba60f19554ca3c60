use Rattle.smv_circuits.proofs.writing.+push_difference.Given as goal

abbrev pub decreases-push_difference : goal.decreases-push_difference
decreases-push_difference l = l.more
