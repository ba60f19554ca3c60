use Rattle.std.proofs.Common.{◌≡◌, ◌++◌, drop}
use Rattle.smv_mentions.specs.Said.{words_at}
use Rattle.smv_look_names.proofs.words.add_words.Given as goal

abbrev pub invariant-loop-word : goal.invariant-loop-word
invariant-loop-word l = words_at l.out.items ++ drop l.word-index l.words ≡ words_at l.initial.out.items ++ l.words
