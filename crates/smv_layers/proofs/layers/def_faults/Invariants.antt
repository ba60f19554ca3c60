use Rattle.std.proofs.Common.{◌≡◌, map, drop}
use Rattle.smv_first_fault.specs.Firsts.{earlier_of}
use Rattle.smv_layers.specs.Leaks.{first_among, def_fault}
use Rattle.smv_layers.proofs.layers.def_faults.Given as goal

abbrev pub invariant-loop-def : goal.invariant-loop-def
invariant-loop-def l = earlier_of l.found (first_among (map (def_fault l.families) (drop l.def-index l.defs))) ≡ first_among (map (def_fault l.families) l.defs)
