use Rattle.std.specs.Prelude.{◌≡◌, ◌++◌, drop}
use Rattle.smv_look_lines.specs.Lists.{keep_lines}
use Rattle.smv_look_lines.proofs.choices.push_keeps.Given as goal

abbrev pub invariant-loop-keep : goal.invariant-loop-keep
invariant-loop-keep l = l.out.items ++ keep_lines l.design (drop l.keep-index l.keeps) ≡ l.initial.out.items ++ keep_lines l.design l.keeps
