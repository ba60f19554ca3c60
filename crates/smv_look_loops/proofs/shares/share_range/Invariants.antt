use Rattle.std.proofs.Common.{◌≡◌, ◌+◌, ◌-◌}
use Rattle.std.specs.List.{list_any}
use Rattle.smv_core.specs.Values.{numbers_from}
use Rattle.smv_indexes.specs.Indexes.{index_of}
use Rattle.smv_look_loops.specs.Shares.{both_fit, share_range}
use Rattle.smv_look_loops.proofs.shares.share_range.Given as goal

abbrev pub invariant-loop-k : goal.invariant-loop-k
invariant-loop-k l = list_any (both_fit (index_of l.i) (index_of l.j)) (numbers_from l.k (l.high + 1 - l.k)) ≡ share_range l.low l.high (index_of l.i) (index_of l.j)
