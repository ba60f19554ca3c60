use Rattle.std.proofs.Common.{length}
use Rattle.smv_reads.proofs.counts.+may_be_own.Given as goal

abbrev pub decreases-may_be_own : goal.decreases-may_be_own
decreases-may_be_own l = length l.left.now
