use Rattle.std.proofs.Common.{◌≡◌, ◌++◌, map, drop}
use Rattle.smv_references.specs.Again.{placed, placed_words}
use Rattle.smv_references.proofs.brackets.add_words.Given as goal

abbrev pub invariant-loop-word : goal.invariant-loop-word
invariant-loop-word l = map placed l.out.items ++ placed_words (drop l.word-index l.words) ≡ map placed l.initial.out.items ++ placed_words l.words
