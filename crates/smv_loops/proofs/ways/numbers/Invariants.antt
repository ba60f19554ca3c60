use Rattle.std.proofs.Common.{◌≡◌, ◌+◌, ◌-◌, ◌≤◌, map, Some}
use Rattle.smv_core.specs.Values.{numbers_from}
use Rattle.smv_loops.proofs.ways.numbers.Given as goal

abbrev pub invariant-loop-k : goal.invariant-loop-k
invariant-loop-k l = record { so_far : l.numbers.items ≡ map Some (numbers_from l.low (l.k - l.low)); most : l.k - l.low ≤ l.high + 1 - l.low }
