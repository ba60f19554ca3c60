use Rattle.std.proofs.Common.{◌≡◌, [], drop}
use Rattle.smv_mentions.specs.Scopes.{first_of_places}
use Rattle.smv_mentions.specs.Said.{words_at}
use Rattle.smv_first_fault.specs.Firsts.{least}
use Rattle.smv_scope.specs.Rules.{repeated_after}
use Rattle.smv_scope.proofs.doubled.repeated.Given as goal

abbrev pub invariant-loop-word : goal.invariant-loop-word
invariant-loop-word l = first_of_places l.first (least (repeated_after l.seen (words_at (drop l.word-index l.words)))) ≡ least (repeated_after [] (words_at l.words))
