use Rattle.std.proofs.Common.{◌≡◌, ◌++◌, map, drop}
use Rattle.smv_mentions.specs.Said.{told, told_by}
use Rattle.smv_mentions.proofs.pieces.pieces.Given as goal

abbrev pub invariant-loop-top : goal.invariant-loop-top
invariant-loop-top l = map told l.pieces.items ++ map told_by (drop l.top-index l.tops) ≡ map told_by l.tops
