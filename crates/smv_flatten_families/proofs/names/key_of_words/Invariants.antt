use Rattle.std.proofs.Common.{◌≡◌, ◌++◌, drop}
use Rattle.smv_core.specs.Types.{names_of}
use Rattle.smv_flatten_families.specs.Paths.{path_of}
use Rattle.smv_flatten_families.proofs.names.key_of_words.Given as goal

abbrev pub invariant-loop-word : goal.invariant-loop-word
invariant-loop-word l = path_of l.names.items ++ names_of (drop l.word-index l.words) ≡ names_of l.words
