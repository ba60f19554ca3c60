use Rattle.std.specs.Prelude.{◌≡◌, ◌++◌, drop}
use Rattle.smv_look_lines.specs.Parts.{words_text}
use Rattle.smv_look_lines.proofs.parts.push_words.Given as goal

abbrev pub invariant-loop-word : goal.invariant-loop-word
invariant-loop-word l = l.out.items ++ words_text (drop l.word-index l.words) ≡ l.initial.out.items ++ words_text l.words
