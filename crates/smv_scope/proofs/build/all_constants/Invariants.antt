use Rattle.std.proofs.Common.{◌≡◌, ◌++◌, map, drop}
use Rattle.std.specs.List.{flat_map}
use Rattle.smv_scope.specs.Held.{constant_beside, constants_of_list}
use Rattle.smv_scope.proofs.build.all_constants.Given as goal

abbrev pub invariant-loop-number : goal.invariant-loop-number
invariant-loop-number l =
    map (constant_beside l.lists) l.constants ++ flat_map (λ words. constants_of_list words.now) (drop l.number l.lists) ≡ flat_map (λ words. constants_of_list words.now) l.lists
