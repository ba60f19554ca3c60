use Rattle.std.proofs.Common.{◌<◌, length}
use Rattle.smv_inductive.proofs.order.best.Given as goal

abbrev pub invariant-loop-i : goal.invariant-loop-i
invariant-loop-i l = l.best < length l.laws
