use Rattle.std.proofs.Common.{◌≡◌, drop, not}
use Rattle.std.specs.List.{flat_map}
use Rattle.smv_mentions.specs.NameFaults.{place_if}
use Rattle.smv_mentions.specs.Scopes.{first_of_places}
use Rattle.smv_first_fault.specs.Firsts.{least}
use Rattle.law_splits.specs.SplitFaults.{names_one}
use Rattle.smv_references.proofs.brackets.first_unbound.Given as goal

abbrev pub invariant-loop-word : goal.invariant-loop-word
invariant-loop-word l =
    first_of_places l.found (least (flat_map (λ word. place_if (not (names_one l.bound word)) word.at) (drop l.word-index l.words)))
    ≡ least (flat_map (λ word. place_if (not (names_one l.bound word)) word.at) l.words)
