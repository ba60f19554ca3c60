use Rattle.std.proofs.Common.{◌≡◌, ℕ, List, map, take, sum}
use Rattle.smv_core.specs.Values.{Name}
use Rattle.smv_core.specs.FlatOrder.{Body}
use Rattle.smv_mentions.specs.Sizes.{Sized, Thing, statements_of_item}
use Rattle.smv_size.specs.Limits.{capped}
use Rattle.smv_size.specs.Summary.{AreToldOf}
use Rattle.smv_size.proofs.modules.+items.Given as goal

abbrev pub invariant-statements_of_items-loop-item : goal.invariant-statements_of_items-loop-item
invariant-statements_of_items-loop-item l =
    (known : List (Name × Sized)) (bodies : List (Name × Body)) (things : Name → List Thing) (counts : Name → ℕ) → AreToldOf known bodies things counts l.names l.sizes → l.total ≡ capped (sum (map (statements_of_item known bodies counts) (take l.item-index l.items)))
