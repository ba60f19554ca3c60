use Rattle.std.proofs.Common.{◌≡◌, map, take}
use Rattle.smv_core.specs.FlatOrder.{modules}
use Rattle.smv_size.specs.Summary.{module_bodies, body_of}
use Rattle.smv_size.proofs.modules.module_texts.Given as goal

abbrev pub invariant-loop-top : goal.invariant-loop-top
invariant-loop-top l = map body_of l.modules.items ≡ module_bodies (modules (take l.top-index l.tops))
