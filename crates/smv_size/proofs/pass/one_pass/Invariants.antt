use Rattle.std.proofs.Common.{◌≡◌, List, map}
use Rattle.smv_core.specs.Values.{Name}
use Rattle.smv_core.specs.FlatOrder.{Body}
use Rattle.smv_mentions.specs.Sizes.{Sized}
use Rattle.smv_size.specs.Summary.{types_told, module_names, module_bodies, body_of}
use Rattle.smv_size.specs.Pass.{AreAtMost}
use Rattle.smv_size.proofs.pass.one_pass.Given as goal

abbrev pub invariant-loop-turn : goal.invariant-loop-turn
invariant-loop-turn l =
    (known : List (Name × Sized)) (bodies : List (Name × Body)) → l.types ≡ types_told known → l.names ≡ module_names bodies → map body_of l.modules ≡ module_bodies bodies → AreAtMost known bodies l.names l.sizes.items l.turn
