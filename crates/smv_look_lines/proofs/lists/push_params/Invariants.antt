use Rattle.std.specs.Prelude.{◌≡◌, ◌++◌, drop}
use Rattle.smv_look_lines.specs.Lists.{param_lines}
use Rattle.smv_look_lines.proofs.lists.push_params.Given as goal

abbrev pub invariant-loop-param : goal.invariant-loop-param
invariant-loop-param l = l.out.items ++ param_lines l.design (drop l.param-index l.params) ≡ l.initial.out.items ++ param_lines l.design l.params
