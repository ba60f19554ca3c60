use Rattle.std.proofs.Common.{◌≡◌, ◌+◌, ◌-◌, ◌++◌, map}
use Rattle.smv_core.specs.Values.{numbers_from}
use Rattle.smv_core.specs.declared.flat.Class.TheVariants as class
use Rattle.smv_reads.proofs.indexes.numbers.Given as goal

abbrev pub invariant-loop-value : goal.invariant-loop-value
invariant-loop-value l = l.classes.items ++ map class.Number (numbers_from l.value (l.high + 1 - l.value)) ≡ map class.Number (numbers_from l.low (l.high + 1 - l.low))
