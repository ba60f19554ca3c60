use Rattle.std.proofs.Common.{◌≡◌, map, drop}
use Rattle.smv_mentions.specs.Said.{told}
use Rattle.smv_size.specs.Place.{main_told}
use Rattle.smv_size.proofs.place.first_main.Given as goal

abbrev pub invariant-loop-piece : goal.invariant-loop-piece
invariant-loop-piece l = main_told (map told l.pieces) ≡ main_told (map told (drop l.piece-index l.pieces))
