use Rattle.std.specs.Prelude.{◌≡◌, ◌++◌, drop}
use Rattle.smv_look_lines.specs.Lists.{all_lines, list_lines}
use Rattle.smv_look_lines.proofs.lists.list_lines.Given as goal

abbrev pub invariant-loop-u : goal.invariant-loop-u
invariant-loop-u l = l.out.items ++ all_lines l.plan.design l.text (drop l.u l.units) (drop l.u l.leaves) (drop l.u l.choices) (drop l.u l.timed) ≡ list_lines l.text l.plan
