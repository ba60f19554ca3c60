use Rattle.std.proofs.Common.{◌≡◌, ◌++◌, map, drop}
use Rattle.smv_scope.proofs.build.add_constants.Given as goal

abbrev pub invariant-loop-word : goal.invariant-loop-word
invariant-loop-word l = l.constants ++ map (λ word. (word.name, record { at = word.at; list = l.number })) (drop l.word-index l.words) ≡ l.initial.constants ++ map (λ word. (word.name, record { at = word.at; list = l.number })) l.words
