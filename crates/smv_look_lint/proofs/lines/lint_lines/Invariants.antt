use Rattle.std.proofs.Common.{◌≡◌, ◌++◌, drop}
use Rattle.std.specs.List.{flat_map}
use Rattle.smv_look_lint.specs.Lines.{lint_lines, warning_line}
use Rattle.smv_look_lint.proofs.lines.lint_lines.Given as goal

abbrev pub invariant-loop-warning : goal.invariant-loop-warning
invariant-loop-warning l = l.out.items ++ flat_map (warning_line l.text l.plan.design) (drop l.warning-index l.warning-items) ≡ lint_lines l.text l.tree l.plan
