use Rattle.std.proofs.Common.{◌≡◌, ◌++◌, drop}
use Rattle.smv_cases.specs.Types.{types_of}
use Rattle.smv_cases.proofs.calls.abs_types.Given as goal

abbrev pub invariant-loop-set : goal.invariant-loop-set
invariant-loop-set l =
    l.types.items ++ drop l.set (types_of l.design.sets l.leaf.params l.choice.keeps l.case.classes) ≡ types_of l.design.sets l.leaf.params l.choice.keeps l.case.classes
