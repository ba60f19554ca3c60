use Rattle.std.proofs.Common.{◌≡◌, ◌++◌, drop}
use Rattle.smv_flatten.proofs.copies.add_words.Given as goal

abbrev pub invariant-loop-word : goal.invariant-loop-word
invariant-loop-word l = l.out ++ drop l.word-index l.words ≡ l.initial.out ++ l.words
