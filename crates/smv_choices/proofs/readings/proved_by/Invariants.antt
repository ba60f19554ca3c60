use Rattle.std.proofs.Common.{◌≡◌, ◌++◌, map, drop}
use Rattle.std.specs.List.{flat_map}
use Rattle.smv_mentions.specs.Scopes.{first_of_places}
use Rattle.smv_first_fault.specs.Firsts.{least}
use Rattle.smv_choices.specs.Parts.{proved_one, unknown_one}
use Rattle.smv_choices.specs.Readings.{pair_of}
use Rattle.smv_choices.proofs.readings.proved_by.Given as goal

abbrev pub invariant-loop-of : goal.invariant-loop-of
invariant-loop-of l = record {
  leaves : map pair_of l.out.leaves.items ++ flat_map (proved_one l.leaves) (drop l.of-index l.proves) ≡ flat_map (proved_one l.leaves) l.proves;
  no_leaf : first_of_places l.out.no_leaf (least (flat_map (unknown_one l.leaves) (drop l.of-index l.proves))) ≡ least (flat_map (unknown_one l.leaves) l.proves);
}
