use Rattle.std.proofs.Common.{◌≡◌, ◌++◌, [], ◌∷◌, drop}
use Rattle.std.specs.List.{flat_map}
use Rattle.smv_mentions.specs.NameFaults as faults
use Rattle.smv_mentions.specs.Said.{said, words_at}
use Rattle.smv_look_names.proofs.words.declared_words.Given as goal

abbrev pub invariant-loop-mention : goal.invariant-loop-mention
invariant-loop-mention l = words_at l.out.items ++ flat_map (λ mention. faults.declared_words (said mention ∷ [])) (drop l.mention-index l.mentions) ≡ flat_map (λ mention. faults.declared_words (said mention ∷ [])) l.mentions
