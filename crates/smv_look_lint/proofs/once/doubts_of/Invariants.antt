use Rattle.std.proofs.Common.{◌≡◌, ◌++◌, drop}
use Rattle.std.specs.List.{flat_map}
use Rattle.smv_look_lint.specs.Lint.{doubted_in}
use Rattle.smv_look_lint.proofs.once.doubts_of.Given as goal

abbrev pub invariant-loop-def : goal.invariant-loop-def
invariant-loop-def l = l.doubts.items ++ flat_map (doubted_in l.design.families) (drop l.def-index l.design.defs) ≡ flat_map (doubted_in l.design.families) l.design.defs
