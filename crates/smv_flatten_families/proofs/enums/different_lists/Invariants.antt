use Rattle.std.proofs.Common.{map, take}
use Rattle.smv_core.specs.Types.{names_of}
use Rattle.smv_flatten_families.specs.Lists.{AreLists}
use Rattle.smv_flatten_families.proofs.enums.different_lists.Given as goal

abbrev pub invariant-loop-words : goal.invariant-loop-words
invariant-loop-words l = AreLists l.lists (map (λ words. names_of words.now) (take l.words-index l.all))
