use Rattle.std.proofs.Common.{◌≡◌, ◌-◌, ◌++◌, map}
use Rattle.smv_core.specs.Values.{numbers_from}
use Rattle.smv_core.specs.declared.flat.Class.TheVariants.{Named}
use Rattle.smv_concrete.proofs.classes.named.Given as goal

abbrev pub invariant-loop-class : goal.invariant-loop-class
invariant-loop-class l = l.classes.items ++ map Named (numbers_from l.class (l.count - l.class)) ≡ map Named (numbers_from 0 l.count)
