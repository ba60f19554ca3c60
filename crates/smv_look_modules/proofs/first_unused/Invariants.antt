use Rattle.std.proofs.Common.{◌≡◌, map, drop}
use Rattle.std.specs.List.{flat_map}
use Rattle.smv_mentions.specs.Scopes.{first_of_places}
use Rattle.smv_mentions.specs.Said.{told}
use Rattle.smv_first_fault.specs.Firsts.{least}
use Rattle.smv_look_modules.specs.Modules as spec
use Rattle.smv_look_modules.proofs.first_unused.Given as goal

abbrev pub invariant-loop-piece : goal.invariant-loop-piece
invariant-loop-piece l =
    first_of_places l.first (least (flat_map (spec.if_unused l.used) (map told (drop l.piece-index l.pieces)))) ≡ least (flat_map (spec.if_unused l.used) (map told l.pieces))
