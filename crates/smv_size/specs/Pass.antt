-- One pass through the modules: each is told of once, from what was told of the others before. It tells of each at most what so many rounds tell.
use Rattle.std.specs.Prelude.{◌≡◌, ℕ, ◌≤◌, min, List, length, true}
use Rattle.std.specs.List.{list_any}
use Rattle.smv_core.specs.Values.{Name}
use Rattle.smv_core.specs.FlatOrder.{Body}
use Rattle.smv_mentions.specs.Sizes.{Sized, Thing, is_too_wide, things_in, statements_in}
use Rattle.smv_size.specs.Limits.{capped}
use Rattle.smv_size.specs.Summary.{AreToldOf}
use Rattle.smv_size.specs.declared.modules.ModuleSize.{ModuleSize}

-- some things are no more than others, up to the limit, and too wide only where these are
abbrev pub AreNoMore : List Thing → List Thing → Type 0
AreNoMore things others = (min 4097 (length things) ≤ min 4097 (length others)) × (list_any is_too_wide things ≡ true → list_any is_too_wide others ≡ true)

-- what is told of every module is at most what is told where no chain of instances is longer than this number
pub record AreAtMost (known : List (Name × Sized)) (bodies : List (Name × Body)) (names : List Name) (sizes : List ModuleSize) (n : ℕ) : Type 0 where
  pub things : Name → List Thing
  pub statements : Name → ℕ
  pub told : AreToldOf known bodies things statements names sizes
  pub few : (name : Name) → AreNoMore (things name) (things_in known bodies n name)
  pub small : (name : Name) → capped (statements name) ≤ capped (statements_in known bodies n name)
