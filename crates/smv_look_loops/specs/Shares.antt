-- Where an assignment reads a cell that another concerns, as it is looked for.
use Rattle.std.specs.Prelude.{ℕ, ◌+◌, ◌-◌, List, [], ◌∷◌, Option, Some, None, Bool, true, false, not, ◌&&◌, nat_eq, slice_get, if◌then◌else◌}
use Rattle.std.specs.List.{list_any}
use Rattle.smv_core.specs.Assignments.{Index, fits}
use Rattle.smv_core.specs.Values.{number, numbers_from}
use Rattle.smv_core.specs.declared.flat.Simple.{Simple}
use Rattle.smv_core.specs.declared.flat.Simple.TheVariants.{Range}
use Rattle.smv_core.specs.declared.flat.Family.{Family}
use Rattle.law_designs.specs.Loops.{is_constant}
use Rattle.law_designs.specs.Reading.{Reference, Reading}

abbrev pub both_fit : Index → Index → ℕ → Bool
both_fit i j k = fits i (number k) && fits j (number k)

-- a number of a range fits both indexes
abbrev pub share_range : ℕ → ℕ → Index → Index → Bool
share_range low high i j = list_any (both_fit i j) (numbers_from low (high + 1 - low))

-- what a cell has at the one index it may have at the other
abbrev pub share_at : Simple → Index → Index → Bool
share_at (Range low high) i j = share_range low high i j
share_at _ i j = not (is_constant i) && not (is_constant j)

-- a cell has these indexes and those
abbrev pub share : List Simple → List Index → List Index → Bool
share [] is js = true
share (o ∷ over) [] [] = true
share (o ∷ over) [] (j ∷ js) = false
share (o ∷ over) (i ∷ is) [] = false
share (o ∷ over) (i ∷ is) (j ∷ js) = share_at o i j && share over is js

abbrev pub share_in : Option Family → List Index → List Index → Bool
share_in None is js = false
share_in (Some f) is js = share f.over is js

-- a reference reads a cell that an assignment concerns
abbrev pub meets : List Family → Reference → Reading → Bool
meets families r b = nat_eq r.family b.family && share_in (slice_get families r.family) r.indexes b.left

-- the place of the first of these references that does
abbrev pub first_place : List Family → List Reference → Reading → Option ℕ
first_place families [] b = None
first_place families (r ∷ reads) b = if meets families r b then Some r.at else first_place families reads b
