use Rattle.std.proofs.Common.{◌≡◌, ◌++◌, map, drop}
use Rattle.smv_splits.proofs.misfits.names_of.Given as goal

abbrev pub invariant-loop-word : goal.invariant-loop-word
invariant-loop-word l = l.names ++ map (λ word. word.name) (drop l.word-index l.words) ≡ map (λ word. word.name) l.words
