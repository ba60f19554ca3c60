-- What the laws of loops say.
use Rattle.std.specs.Prelude.{◌≡◌, ◌<◌, ℕ, List, [], ◌∷◌, length, filter, Bool}
use Rattle.smv_core.specs.declared.flat.Cell.{Cell}
use Rattle.law_designs.specs.Loops.{Edge, going_on}

-- those of the edges that are chosen, at least one, each lead on to one of them
abbrev pub IsCircular : List Edge → (Edge → Bool) → Type 0
IsCircular edges chosen = (going_on (filter chosen edges) ≡ filter chosen edges) × (0 < length (filter chosen edges))

-- each edge leads from a cell of a greater number to one of a smaller
abbrev pub AreFalling : (Cell → ℕ) → List Edge → Type 0
AreFalling rank [] = Unit {0}
AreFalling rank (edge ∷ edges) = (rank edge.1 < rank edge.0) × AreFalling rank edges
