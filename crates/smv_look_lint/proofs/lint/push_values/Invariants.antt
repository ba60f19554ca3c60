use Rattle.std.proofs.Common.{◌≡◌, ◌++◌, drop}
use Rattle.std.specs.List.{flat_map}
use Rattle.std.specs.Prelude.{slice_get}
use Rattle.smv_core.specs.declared.flat.Def.{Def}
use Rattle.smv_look_lint.specs.Strays.{def_strays}
use Rattle.smv_look_lint.specs.Lint.{value_warnings}
use Rattle.smv_look_lint.proofs.lint.push_values.Given as goal

abbrev pub invariant-loop-def : goal.invariant-loop-def
invariant-loop-def l = l.out.items ++ flat_map (λ (def : Def). def_strays (slice_get l.design.families def.family) def) (drop l.def-index l.design.defs) ≡ l.initial.out.items ++ value_warnings l.design
