use Rattle.std.proofs.Common.{◌≡◌, take}
use Rattle.smv_inductive.specs.Order.{functions_of}
use Rattle.smv_inductive.proofs.order.laws_of.Given as goal

abbrev pub invariant-loop-i : goal.invariant-loop-i
invariant-loop-i l = functions_of l.laws.items ≡ take l.i l.fs
