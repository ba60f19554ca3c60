use Rattle.std.proofs.Common.{◌≡◌, ◌++◌, drop}
use Rattle.std.specs.List.{flat_map}
use Rattle.smv_look_lint.specs.Signals.{families_mapped, map_families}
use Rattle.smv_look_lint.proofs.signals.families_mapped.Given as goal

abbrev pub invariant-loop-unit : goal.invariant-loop-unit
invariant-loop-unit l = l.families.items ++ flat_map (map_families l.design) (drop l.unit-index l.units) ≡ families_mapped l.design l.units
