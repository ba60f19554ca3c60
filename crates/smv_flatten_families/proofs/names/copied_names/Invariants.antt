use Rattle.std.proofs.Common.{◌≡◌, ◌++◌, drop}
use Rattle.smv_core.specs.Types.{names_of}
use Rattle.smv_flatten_families.proofs.names.copied_names.Given as goal

abbrev pub invariant-loop-word : goal.invariant-loop-word
invariant-loop-word l = l.names ++ names_of (drop l.word-index l.words) ≡ names_of l.words
