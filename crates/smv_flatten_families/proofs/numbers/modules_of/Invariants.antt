use Rattle.std.proofs.Common.{◌≡◌, ◌++◌, map, drop}
use Rattle.smv_core.specs.FlatOrder.{modules}
use Rattle.smv_flatten_families.specs.Families.{body_beside}
use Rattle.smv_flatten_families.proofs.numbers.modules_of.Given as goal

abbrev pub invariant-loop-top : goal.invariant-loop-top
invariant-loop-top l = map body_beside l.held ++ modules (drop l.top-index l.tops) ≡ modules l.tops
