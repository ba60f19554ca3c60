use Rattle.std.proofs.Common.{◌≡◌, [], take}
use Rattle.smv_mentions.specs.Sizes.{sized_from}
use Rattle.smv_size.specs.Summary.{types_told}
use Rattle.smv_size.proofs.types.type_sizes.Given as goal

abbrev pub invariant-loop-top : goal.invariant-loop-top
invariant-loop-top l = l.types ≡ types_told (sized_from [] (take l.top-index l.tops))
