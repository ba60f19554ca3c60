use Rattle.std.proofs.Common.{arith}
use Rattle.smv_reads.proofs.IndexLaws.{few-at}
use Rattle.smv_reads.proofs.indexes.classes_over.Goals as goal

pub names-requires : goal.names-requires
names-requires c = let few = few-at c.args.types.now c.in-Set.set c.requires in let same = c.count.ensures in omega (arith, few, same)
