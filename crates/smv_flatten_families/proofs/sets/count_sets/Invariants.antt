use Rattle.std.proofs.Common.{◌≡◌, ◌+◌, ◌≤◌, drop, length}
use Rattle.std.specs.List.{flat_map}
use Rattle.law_designs.specs.Flattening.{set_of}
use Rattle.smv_flatten_families.proofs.sets.count_sets.Given as goal

abbrev pub invariant-loop-top : goal.invariant-loop-top
invariant-loop-top l = (l.count + length (flat_map set_of (drop l.top-index l.tops)) ≡ length (flat_map set_of l.tops)) × (l.count ≤ l.top-index)
