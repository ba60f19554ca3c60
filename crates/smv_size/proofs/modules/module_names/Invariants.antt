use Rattle.std.proofs.Common.{◌≡◌, take}
use Rattle.smv_core.specs.FlatOrder.{modules}
use Rattle.smv_size.specs.Summary as spec
use Rattle.smv_size.proofs.modules.module_names.Given as goal

abbrev pub invariant-loop-top : goal.invariant-loop-top
invariant-loop-top l = l.names ≡ spec.module_names (modules (take l.top-index l.tops))
