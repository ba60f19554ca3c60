use Rattle.std.proofs.Common.{◌≡◌, map, take}
use Rattle.std.specs.HashMap.{get}
use Rattle.smv_core.specs.Values.{Path}
use Rattle.smv_core.specs.Outcome.{same_path}
use Rattle.smv_flatten_families.specs.Paths.{first_place}
use Rattle.smv_flatten_families.specs.Families.{in_place}
use Rattle.smv_flatten_families.proofs.numbers.places_of.Given as goal

abbrev pub invariant-loop-place : goal.invariant-loop-place
invariant-loop-place l = (path : Path) → get same_path l.places path ≡ first_place (map (λ placed. (in_place placed).path) (take l.place l.all)) path
