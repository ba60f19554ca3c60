use Rattle.std.proofs.Common.{◌≡◌, drop}
use Rattle.std.specs.List.{flat_map}
use Rattle.smv_mentions.specs.Scopes.{first_of_places}
use Rattle.smv_first_fault.specs.Firsts.{least}
use Rattle.smv_split_faults.specs.Waiting.{shown_of_unit}
use Rattle.smv_split_faults.proofs.mismatches.first_mismatch.Given as goal

abbrev pub invariant-loop-unit : goal.invariant-loop-unit
invariant-loop-unit l = first_of_places l.found (least (flat_map (shown_of_unit l.tables.design.now) (drop l.unit-index l.units))) ≡ least (flat_map (shown_of_unit l.tables.design.now) l.units)
