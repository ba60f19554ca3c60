use Rattle.std.proofs.Common.{◌≡◌, ◌++◌, map, drop}
use Rattle.smv_core.specs.Types.{names_of}
use Rattle.smv_flatten_families.proofs.enums.copied_lists.Given as goal

abbrev pub invariant-loop-words : goal.invariant-loop-words
invariant-loop-words l = l.copies ++ map (λ words. names_of words.now) (drop l.words-index l.lists) ≡ map (λ words. names_of words.now) l.lists
