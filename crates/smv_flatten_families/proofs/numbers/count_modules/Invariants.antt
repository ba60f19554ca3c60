use Rattle.std.proofs.Common.{◌≡◌, ◌+◌, ◌≤◌, drop, length}
use Rattle.smv_core.specs.FlatOrder.{modules}
use Rattle.smv_flatten_families.proofs.numbers.count_modules.Given as goal

abbrev pub invariant-loop-top : goal.invariant-loop-top
invariant-loop-top l = (l.count + length (modules (drop l.top-index l.tops)) ≡ length (modules l.tops)) × (l.count ≤ l.top-index)
