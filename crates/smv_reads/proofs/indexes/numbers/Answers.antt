use Rattle.std.proofs.Common.{arith}
use Rattle.smv_reads.proofs.IndexLaws.{more-numbers}
use Rattle.smv_reads.proofs.indexes.numbers.Goals as goal

pub loop-value-preserved : goal.loop-value-preserved
loop-value-preserved c = more-numbers c.loop-value.classes.items _ _ c.loop-value.value _ (omega arith) c.in_ok-push.ensures.items c.loop-value.invariant
