use Rattle.std.proofs.Common.{◌≡◌, map, drop}
use Rattle.smv_mentions.specs.Scopes.{first_of_places}
use Rattle.smv_splits.specs.Parts as parts
use Rattle.smv_splits.proofs.misfits.first_stray.Given as goal

abbrev pub invariant-loop-pair : goal.invariant-loop-pair
invariant-loop-pair l =
    first_of_places l.found (parts.first_among (map (λ pair. parts.stray_in l.standing pair.left) (drop l.pair-index l.pairs))) ≡ parts.first_among (map (λ pair. parts.stray_in l.standing pair.left) l.pairs)
