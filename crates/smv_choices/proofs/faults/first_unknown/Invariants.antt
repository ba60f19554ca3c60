use Rattle.std.proofs.Common.{◌≡◌, map, drop}
use Rattle.smv_mentions.specs.Scopes.{first_of_places}
use Rattle.smv_choices.specs.Parts as parts
use Rattle.smv_choices.specs.Readings as readings
use Rattle.smv_choices.specs.Readings.{reading}
use Rattle.smv_choices.proofs.faults.first_unknown.Given as goal

abbrev pub invariant-loop-x : goal.invariant-loop-x
invariant-loop-x l = first_of_places l.found (parts.first_among (map readings.unknown_in (map reading (drop l.x-index l.all)))) ≡ parts.first_among (map readings.unknown_in (map reading l.all))
