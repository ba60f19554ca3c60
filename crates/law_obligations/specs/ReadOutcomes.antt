-- Reads: an element for each choice of indexes, taken index by index.
use Rattle.std.specs.Prelude.{List, [], ◌∷◌, ◌++◌, map, zip, Option, Some, None, Bool}
use Rattle.std.specs.List.{list_any}
use Rattle.smv_core.specs.declared.flat.Simple.{Simple}
use Rattle.law_obligations.specs.Sets.{all_there}
use Rattle.law_obligations.specs.Places.{Place, World, AbsOutcome, places_in}
use Rattle.law_obligations.specs.May.{place_within}

-- what is found at a place, and outside the type
abbrev pub where_within : Bool → (Place → Bool) → AbsOutcome → Bool
where_within outside f None = outside
where_within outside f (Some p) = f p

-- the places of these outcomes, where each is in its type
abbrev pub within_all : World → List Simple → List AbsOutcome → Option (List Place)
within_all w over us = all_there (map (λ (t, u). place_within (places_in w t) u) (zip over us))

-- what a test finds of the element at these indexes: one where an index is outside its type, and the element at the places otherwise
abbrev pub found : Bool → (List Place → Bool) → Option (List Place) → Bool
found outside inside None = outside
found outside inside (Some ps) = inside ps

module _ (w : World) (outside : Bool) (inside : List Place → Bool) where
  -- index by index, with the places of those before
  abbrev pub found_from : List Place → List Simple → List (List AbsOutcome) → Bool
  found_from ps over [] = inside ps
  found_from ps [] (us ∷ uss) = found_from ps [] uss
  found_from ps (t ∷ over) (us ∷ uss) = list_any (λ u. where_within outside (λ q. found_from (ps ++ q ∷ []) over uss) (place_within (places_in w t) u)) us
