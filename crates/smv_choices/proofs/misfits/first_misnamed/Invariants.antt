use Rattle.std.proofs.Common.{◌≡◌, map, drop}
use Rattle.smv_mentions.specs.Scopes.{first_of_places}
use Rattle.smv_choices.specs.Parts as parts
use Rattle.smv_choices.specs.Readings.{pair_of}
use Rattle.smv_choices.proofs.misfits.first_misnamed.Given as goal

abbrev pub invariant-loop-x : goal.invariant-loop-x
invariant-loop-x l = first_of_places l.found (parts.first_among (map (parts.misnamed l.bound) (map pair_of (drop l.x-index l.proved)))) ≡ parts.first_among (map (parts.misnamed l.bound) (map pair_of l.proved))
