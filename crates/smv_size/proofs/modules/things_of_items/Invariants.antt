use Rattle.std.proofs.Common.{◌≡◌, ℕ, List, take}
use Rattle.std.specs.List.{flat_map}
use Rattle.smv_core.specs.Values.{Name}
use Rattle.smv_core.specs.FlatOrder.{Body}
use Rattle.smv_mentions.specs.Sizes.{Sized, Thing, things_of_item}
use Rattle.smv_size.specs.Summary.{things_told, types_told, AreToldOf}
use Rattle.smv_size.proofs.modules.things_of_items.Given as goal

abbrev pub invariant-loop-item : goal.invariant-loop-item
invariant-loop-item l =
    (known : List (Name × Sized)) (bodies : List (Name × Body)) (things : Name → List Thing) (counts : Name → ℕ) → l.types ≡ types_told known → AreToldOf known bodies things counts l.names l.sizes → l.all ≡ things_told (flat_map (things_of_item known bodies things) (take l.item-index l.items))
