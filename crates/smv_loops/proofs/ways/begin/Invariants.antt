use Rattle.std.proofs.Common.{◌≡◌, ◌++◌, take}
use Rattle.smv_loops.specs.Order.{begun, lists_of}
use Rattle.smv_loops.proofs.ways.begin.Given as goal

abbrev pub invariant-loop-list : goal.invariant-loop-list
invariant-loop-list l = lists_of l.out.items ≡ lists_of l.initial.out.items ++ begun l.first (lists_of (take l.list-index l.rest))
