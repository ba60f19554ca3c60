use Rattle.std.proofs.Common.{◌≡◌, ◌-◌, ◌++◌, map}
use Rattle.smv_core.specs.Values.{numbers_from}
use Rattle.smv_core.specs.declared.flat.Class.TheVariants.{Number}
use Rattle.smv_concrete.proofs.classes.numbers.Given as goal

abbrev pub invariant-loop-value : goal.invariant-loop-value
invariant-loop-value l = l.classes.items ++ map Number (numbers_from l.value (l.end - l.value)) ≡ map Number (numbers_from l.first (l.end - l.first))
