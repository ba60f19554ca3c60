use Rattle.std.proofs.Common.{◌≡◌, ◌++◌, drop}
use Rattle.smv_concrete.specs.Subjects.{whole_types}
use Rattle.smv_concrete.proofs.subjects.whole_types.Given as goal

abbrev pub invariant-loop-place : goal.invariant-loop-place
invariant-loop-place l = l.types.items ++ whole_types (drop l.place l.sets) l.left ≡ whole_types l.sets l.sizes
