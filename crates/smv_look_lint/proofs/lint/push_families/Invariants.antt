use Rattle.std.proofs.Common.{◌≡◌, ◌++◌, drop}
use Rattle.smv_look_lint.specs.Lint.{warnings_from}
use Rattle.smv_look_lint.specs.Marks.{held_by}
use Rattle.smv_look_lint.proofs.lint.push_families.Given as goal

abbrev pub invariant-loop-index : goal.invariant-loop-index
invariant-loop-index l = l.out.items ++ warnings_from (held_by l.marks) l.index (drop l.index l.families) ≡ l.initial.out.items ++ warnings_from (held_by l.marks) 0 l.families
