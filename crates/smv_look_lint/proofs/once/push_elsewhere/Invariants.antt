use Rattle.std.proofs.Common.{◌≡◌, ◌++◌, drop}
use Rattle.smv_look_lint.specs.Lint.{elsewhere}
use Rattle.smv_look_lint.proofs.once.push_elsewhere.Given as goal

abbrev pub invariant-loop-warning : goal.invariant-loop-warning
invariant-loop-warning l = l.out.items ++ elsewhere l.last (drop l.warning-index l.warnings) ≡ l.initial.out.items ++ elsewhere l.initial.last l.warnings
