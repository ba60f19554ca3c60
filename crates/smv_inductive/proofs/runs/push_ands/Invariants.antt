use Rattle.std.proofs.Common.{◌≡◌, ◌++◌, map, take}
use Rattle.smv_rings.specs.declared.ops.Op.TheVariants.{And}
use Rattle.smv_inductive.proofs.runs.push_ands.Given as goal

abbrev pub invariant-loop-f : goal.invariant-loop-f
invariant-loop-f l = l.ops.items ≡ l.initial.ops.items ++ map And (take l.f-index l.fs)
