use Rattle.std.proofs.Common.{◌≡◌, ◌++◌, map, drop}
use Rattle.smv_core.specs.Types.{names_of}
use Rattle.smv_flatten_families.specs.Lists.{constants_from}
use Rattle.smv_flatten_families.proofs.enums.all_constants.Given as goal

abbrev pub invariant-loop-place : goal.invariant-loop-place
invariant-loop-place l = l.constants ++ constants_from l.place (map (λ words. names_of words.now) (drop l.place l.lists)) ≡ constants_from 0 (map (λ words. names_of words.now) l.lists)
