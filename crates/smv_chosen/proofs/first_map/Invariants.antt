use Rattle.std.proofs.Common.{◌≡◌, drop}
use Rattle.smv_chosen.specs.Chosen.{first_map}
use Rattle.smv_chosen.proofs.first_map.Given as goal

abbrev pub invariant-loop-unit : goal.invariant-loop-unit
invariant-loop-unit l = first_map l.design l.family l.layer (drop l.unit-index l.units) ≡ first_map l.design l.family l.layer l.units
