-- The laws: what the crate's public function says.
use Rattle.std.specs.Prelude.{◌≡◌, List, map, false}
use Rattle.std.specs.List.{list_any}
use Rattle.smv_core.specs.declared.flat.DefBody.{DefBody}
use Rattle.smv_core.specs.declared.flat.FlatExpr.{FlatExpr}
use Rattle.law_obligations.specs.Sets.{Has}
use Rattle.law_obligations.specs.Places.{Place, World}
use Rattle.law_obligations.specs.Cones.{AbsElement, same_element}
use Rattle.law_reads.specs.Reading.{read_in, read_of}
use Rattle.smv_problem.specs.Written.{written_class, written_element}
use Rattle.smv_may_read.specs.Mentions.{mentions, mentions_inside}

-- what an expression that mentions none of some elements reads is none of them
abbrev pub OthersAreRead : Type 0
OthersAreRead = (w : World) (xs : List AbsElement) (e : FlatExpr) → mentions (map written_element xs) e ≡ false → (b : List Place) (y : AbsElement) → Has (read_in w e b) y → list_any (same_element y) xs ≡ false

-- nor is what a part of a definition reads for the element of these indexes, if no assignment that may be of it mentions one
abbrev pub OthersAreReadFor : Type 0
OthersAreReadFor = (w : World) (xs : List AbsElement) (indexes : List Place) (part : DefBody) → mentions_inside (map written_element xs) (map written_class indexes) false part ≡ false →
    (b : List Place) (y : AbsElement) → Has (read_of w indexes part b) y → list_any (same_element y) xs ≡ false
