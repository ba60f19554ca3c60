use Rattle.std.proofs.Common.{◌≡◌, map, take}
use Rattle.smv_size.specs.Summary.{body_of, empty_told}
use Rattle.smv_size.proofs.modules.empty_sizes.Given as goal

abbrev pub invariant-loop-text : goal.invariant-loop-text
invariant-loop-text l = l.sizes.items ≡ map empty_told (map body_of (take l.text-index l.modules))
