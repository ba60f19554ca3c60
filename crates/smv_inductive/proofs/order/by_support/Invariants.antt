use Rattle.std.proofs.Common.{vec_len}
use Rattle.smv_inductive.proofs.Ordered.{AreSplit}
use Rattle.smv_inductive.proofs.order.by_support.Given as goal

abbrev pub invariant-loop-laws : goal.invariant-loop-laws
invariant-loop-laws l = AreSplit l.fs l.order.items l.laws.items

abbrev pub decreases-loop-laws : goal.decreases-loop-laws
decreases-loop-laws l = vec_len l.laws
