use Rattle.std.proofs.Common.{◌≡◌, ◌++◌, drop}
use Rattle.smv_plans.specs.Units.{maps_from}
use Rattle.smv_plans.proofs.units.maps.Given as goal

abbrev pub invariant-loop-index : goal.invariant-loop-index
invariant-loop-index l = l.out.items ++ maps_from l.design l.index (drop l.index l.design.defs) ≡ maps_from l.design 0 l.design.defs
