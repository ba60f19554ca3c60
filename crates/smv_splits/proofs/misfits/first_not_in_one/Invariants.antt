use Rattle.std.proofs.Common.{◌≡◌, drop, not}
use Rattle.std.specs.List.{flat_map}
use Rattle.smv_mentions.specs.NameFaults.{place_if}
use Rattle.smv_mentions.specs.Scopes.{first_of_places}
use Rattle.smv_first_fault.specs.Firsts.{least}
use Rattle.smv_splits.specs.Parts as parts
use Rattle.smv_splits.proofs.misfits.first_not_in_one.Given as goal

abbrev pub invariant-loop-word : goal.invariant-loop-word
invariant-loop-word l =
    first_of_places l.found (least (flat_map (λ word. place_if (not (parts.is_in_one l.rights.names l.rights.repeated word)) word.at) (drop l.word-index l.words)))
    ≡ least (flat_map (λ word. place_if (not (parts.is_in_one l.rights.names l.rights.repeated word)) word.at) l.words)
