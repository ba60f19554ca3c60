use Rattle.std.proofs.Common.{◌≡◌, ◌++◌, drop, map}
use Rattle.std.specs.Prelude.{filter}
use Rattle.smv_core.specs.declared.flat.Def.{Def}
use Rattle.smv_look_lint.specs.Signals.{families_defined, may_be_own_base}
use Rattle.smv_look_lint.proofs.signals.families_defined.Given as goal

abbrev pub invariant-loop-def : goal.invariant-loop-def
invariant-loop-def l = l.families.items ++ map (λ (def : Def). def.family) (filter (may_be_own_base l.design) (drop l.def-index l.design.defs)) ≡ families_defined l.design
