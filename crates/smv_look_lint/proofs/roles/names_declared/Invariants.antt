use Rattle.std.proofs.Common.{◌≡◌, ◌++◌, drop}
use Rattle.std.specs.List.{flat_map}
use Rattle.smv_look_lint.specs.Roles.{names_declared, top_names}
use Rattle.smv_look_lint.proofs.roles.names_declared.Given as goal

abbrev pub invariant-loop-top : goal.invariant-loop-top
invariant-loop-top l = l.names.items ++ flat_map (top_names l.wanted) (drop l.top-index l.text.tops) ≡ names_declared l.wanted l.text
