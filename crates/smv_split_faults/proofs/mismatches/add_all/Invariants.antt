use Rattle.std.proofs.Common.{◌≡◌, ◌++◌, map, drop}
use Rattle.smv_split_faults.specs.Waiting.{held, waits, splits_at}
use Rattle.smv_split_faults.proofs.mismatches.add_all.Given as goal

abbrev pub invariant-loop-number : goal.invariant-loop-number
invariant-loop-number l =
    map held l.out.items ++ map (waits l.known l.left) (splits_at l.splits (drop l.number-index l.numbers)) ≡ map held l.initial.out.items ++ map (waits l.known l.left) (splits_at l.splits l.numbers)
