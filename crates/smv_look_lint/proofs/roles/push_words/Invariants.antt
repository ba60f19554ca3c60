use Rattle.std.proofs.Common.{◌≡◌, ◌++◌, drop, map}
use Rattle.smv_core.specs.declared.tree.Word.{Word}
use Rattle.smv_look_lint.proofs.roles.push_words.Given as goal

abbrev pub invariant-loop-word : goal.invariant-loop-word
invariant-loop-word l = l.out.items ++ map (λ (word : Word). word.at) (drop l.word-index l.words) ≡ l.initial.out.items ++ map (λ (word : Word). word.at) l.words
