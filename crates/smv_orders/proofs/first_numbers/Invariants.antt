use Rattle.std.proofs.Common.{◌≡◌}
use Rattle.smv_core.specs.Values.{numbers_from}
use Rattle.smv_orders.proofs.first_numbers.Given as goal

abbrev pub invariant-loop-number : goal.invariant-loop-number
invariant-loop-number l = l.numbers.items ≡ numbers_from 0 l.number
