use Rattle.std.proofs.Common.{◌≡◌, List, map}
use Rattle.smv_core.specs.Values.{Name}
use Rattle.smv_core.specs.FlatOrder.{Body}
use Rattle.smv_mentions.specs.Sizes.{Sized}
use Rattle.smv_size.specs.Summary.{types_told, module_names, module_bodies, body_of, AreTold}
use Rattle.smv_size.proofs.rounds.in_rounds.Given as goal

abbrev pub invariant-loop-step : goal.invariant-loop-step
invariant-loop-step l =
    (known : List (Name × Sized)) (bodies : List (Name × Body)) → l.types ≡ types_told known → l.names ≡ module_names bodies → map body_of l.modules ≡ module_bodies bodies → AreTold known bodies l.names l.sizes.items l.step
