use Rattle.std.proofs.Common.{◌≡◌, ◌++◌, map, drop}
use Rattle.smv_mentions.specs.Said.{told}
use Rattle.smv_size.specs.Recursion.{names_told}
use Rattle.smv_size.proofs.recursion.names.Given as goal

abbrev pub invariant-loop-piece : goal.invariant-loop-piece
invariant-loop-piece l = l.names ++ names_told (map told (drop l.piece-index l.pieces)) ≡ names_told (map told l.pieces)
