use Rattle.std.proofs.Common.{length, ◌+◌}
use Rattle.smv_outcome_lists.proofs.ReadLaws.{weight}
use Rattle.smv_outcome_lists.proofs.reads.+reads.Given as goal

abbrev pub decreases-add_read : goal.decreases-add_read
decreases-add_read g l = weight l.uss.now + 1

abbrev pub decreases-add_next : goal.decreases-add_next
decreases-add_next g l = weight l.uss.now

abbrev pub decreases-add_along : goal.decreases-add_along
decreases-add_along g l = length l.us.now + 3 + weight l.uss.now

abbrev pub decreases-add_inside : goal.decreases-add_inside
decreases-add_inside g l = 2 + weight l.uss.now
