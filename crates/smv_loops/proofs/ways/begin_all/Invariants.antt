use Rattle.std.proofs.Common.{◌≡◌, take}
use Rattle.smv_loops.specs.Order.{all_begun, lists_of}
use Rattle.smv_loops.proofs.ways.begin_all.Given as goal

abbrev pub invariant-loop-first : goal.invariant-loop-first
invariant-loop-first l = lists_of l.lists.items ≡ all_begun (take l.first-index l.firsts) (lists_of l.rest)
