use Rattle.std.proofs.Common.{◌≡◌, ◌++◌, drop}
use Rattle.std.specs.List.{flat_map}
use Rattle.law_designs.specs.Flattening.{set_of}
use Rattle.smv_flatten_families.proofs.sets.sets_of.Given as goal

abbrev pub invariant-loop-top : goal.invariant-loop-top
invariant-loop-top l = l.sets ++ flat_map set_of (drop l.top-index l.tops) ≡ flat_map set_of l.tops
