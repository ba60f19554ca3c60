use Rattle.std.proofs.Common.{◌≡◌, ℕ, List, map, take}
use Rattle.smv_core.specs.Values.{Name}
use Rattle.smv_core.specs.FlatOrder.{Body}
use Rattle.smv_mentions.specs.Sizes.{Sized, Thing}
use Rattle.smv_size.specs.Summary.{types_told, body_of, body_told, AreToldOf}
use Rattle.smv_size.proofs.modules.next_sizes.Given as goal

abbrev pub invariant-loop-text : goal.invariant-loop-text
invariant-loop-text l =
    (known : List (Name × Sized)) (bodies : List (Name × Body)) (things : Name → List Thing) (counts : Name → ℕ) → l.types ≡ types_told known → AreToldOf known bodies things counts l.names l.sizes
    → l.next.items ≡ map (body_told known bodies things counts) (map body_of (take l.text-index l.modules))
