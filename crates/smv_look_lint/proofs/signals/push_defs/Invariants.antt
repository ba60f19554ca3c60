use Rattle.std.proofs.Common.{◌≡◌, ◌++◌, drop, map}
use Rattle.std.specs.List.{flat_map}
use Rattle.smv_look_lint.specs.Signals.{read_by_def}
use Rattle.smv_look_lint.proofs.signals.push_defs.Given as goal

abbrev pub invariant-loop-def : goal.invariant-loop-def
invariant-loop-def l = l.out.items ++ flat_map read_by_def (drop l.def-index l.defs) ≡ l.initial.out.items ++ flat_map read_by_def l.defs
