use Rattle.std.proofs.Common.{arith}
use Rattle.smv_reads.proofs.IndexLaws.{more-names}
use Rattle.smv_reads.proofs.indexes.names.Goals as goal

pub loop-class-preserved : goal.loop-class-preserved
loop-class-preserved c = more-names c.loop-class.classes.items _ _ c.loop-class.class _ (omega arith) c.in_ok-push.ensures.items c.loop-class.invariant
