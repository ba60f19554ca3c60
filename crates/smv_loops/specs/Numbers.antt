-- What the program holds of the numbers of cells.
use Rattle.std.specs.Prelude.{◌≡◌, ℕ, ◌+◌, ◌-◌, ◌≤◌, ◌*◌, List, [], map, flat_map, length, slice_index_or, if◌then◌else◌}
use Rattle.smv_core.specs.Assignments.{Index, fits}
use Rattle.smv_core.specs.Values.{numbers_from, number}
use Rattle.smv_core.specs.declared.flat.Simple.{Simple}
use Rattle.smv_core.specs.declared.flat.Family.{Family}
use Rattle.law_designs.specs.Loops.{is_constant}
use Rattle.smv_loops.specs.Cells.{picked, every, place, base}

-- where the numbers of each family begin, and at the end how many there are
pub record AreBases (families : List Family) (bases : List ℕ) : Type 0 where
  pub room : length bases ≡ length families + 1
  pub each : (k : ℕ) → k ≤ length families → slice_index_or bases k 0 ≡ base families k

-- the numbers of the cells with these indexes, from this number on
abbrev pub places : List Simple → List Index → ℕ → List ℕ
places over indexes start = map (λ js. start + place over js) (picked over indexes)

-- those of the cells that have this number at the first index, and this place
abbrev pub digit_places : ℕ → Index → List Simple → List Index → ℕ → ℕ → List ℕ
digit_places digit i over more start k = if fits i (number k) then map (λ js. start + (1 + (digit * length (every over) + place over js))) (picked over more) else []

abbrev pub places_at : ℕ → Index → List Simple → List Index → ℕ → ℕ → List ℕ
places_at low i over more start k = digit_places (k - low) i over more start k

-- those of which the first index is one over a range
abbrev pub range_places : ℕ → ℕ → Index → List Simple → List Index → ℕ → List ℕ
range_places low high i over more start = flat_map (places_at low i over more start) (numbers_from low (high + 1 - low))

-- those of which the first index has no value
abbrev pub single_places : Index → List Simple → List Index → ℕ → List ℕ
single_places i over more start = if is_constant i then [] else map (λ js. start + (1 + place over js)) (picked over more)
