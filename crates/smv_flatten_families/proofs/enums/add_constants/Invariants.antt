use Rattle.std.proofs.Common.{◌≡◌, ◌++◌, drop}
use Rattle.smv_core.specs.Types.{names_of}
use Rattle.smv_flatten_families.specs.Lists.{constants_of_list}
use Rattle.smv_flatten_families.proofs.enums.add_constants.Given as goal

abbrev pub invariant-loop-place : goal.invariant-loop-place
invariant-loop-place l = l.constants ++ constants_of_list l.list l.place (names_of (drop l.place l.words)) ≡ l.initial.constants ++ constants_of_list l.list 0 (names_of l.words)
