use Rattle.std.proofs.Common.{◌≡◌, drop}
use Rattle.std.specs.List.{flat_map}
use Rattle.smv_mentions.specs.Scopes.{first_of_places}
use Rattle.smv_first_fault.specs.Firsts.{least}
use Rattle.smv_splits.specs.Parts as parts
use Rattle.smv_splits.proofs.misfits.first_other_kind.Given as goal

abbrev pub invariant-loop-pair : goal.invariant-loop-pair
invariant-loop-pair l = first_of_places l.found (least (flat_map (parts.other_kind_in l.families l.bound) (drop l.pair-index l.pairs))) ≡ least (flat_map (parts.other_kind_in l.families l.bound) l.pairs)
