use Rattle.std.proofs.Common.{◌≡◌, ◌++◌, map, drop}
use Rattle.smv_mentions.specs.Said.{told}
use Rattle.smv_look_modules.specs.Modules as spec
use Rattle.smv_look_modules.proofs.all_used.Given as goal

abbrev pub invariant-loop-piece : goal.invariant-loop-piece
invariant-loop-piece l = l.names ++ spec.all_used (map told (drop l.piece-index l.pieces)) ≡ spec.all_used (map told l.pieces)
