use Rattle.std.proofs.Common.{◌≡◌, ◌++◌, drop}
use Rattle.smv_core.specs.Types.{names_of}
use Rattle.smv_scope.proofs.undeclared.index_of.Given as goal

abbrev pub invariant-loop-word : goal.invariant-loop-word
invariant-loop-word l = l.index ++ names_of (drop l.word-index l.words) ≡ names_of l.words
