use Rattle.std.proofs.Common.{◌≡◌, ◌++◌, map, drop}
use Rattle.smv_flatten.proofs.roles.add_words.Given as goal

abbrev pub invariant-loop-word : goal.invariant-loop-word
invariant-loop-word l = l.declared ++ map (λ word. (word.name, l.role)) (drop l.word-index l.words) ≡ l.initial.declared ++ map (λ word. (word.name, l.role)) l.words
