use Rattle.std.proofs.Common.{◌≡◌, ◌+◌, ◌-◌, ◌*◌, ◌++◌, map, length}
use Rattle.std.specs.List.{flat_map}
use Rattle.smv_core.specs.Values.{numbers_from}
use Rattle.smv_indexes.specs.Indexes.{index_of}
use Rattle.smv_loops.specs.Numbers.{places_at}
use Rattle.smv_loops.proofs.cells.+numbering.Given as goal

abbrev pub decreases-numbers : goal.decreases-numbers
decreases-numbers l = 5 * length l.over.now

abbrev pub decreases-first_numbers : goal.decreases-first_numbers
decreases-first_numbers l = 5 * length l.over.now + 4

abbrev pub decreases-single_numbers : goal.decreases-single_numbers
decreases-single_numbers l = 5 * length l.over.now + 1

abbrev pub decreases-range_numbers : goal.decreases-range_numbers
decreases-range_numbers l = 5 * length l.over.now + 3

abbrev pub decreases-fixed_numbers : goal.decreases-fixed_numbers
decreases-fixed_numbers l = 5 * length l.over.now + 2

abbrev pub decreases-each_number : goal.decreases-each_number
decreases-each_number l = 5 * length l.over.now + 2

abbrev pub decreases-numbers_at : goal.decreases-numbers_at
decreases-numbers_at l = 5 * length l.over.now + 1

abbrev pub invariant-each_number-loop-k : goal.invariant-each_number-loop-k
invariant-each_number-loop-k l =
    l.out.items ≡ l.initial.out.items ++ flat_map (places_at l.low (index_of l.index) l.over (map index_of l.more) l.start) (numbers_from l.low (l.k - l.low))
