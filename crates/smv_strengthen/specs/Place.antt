-- The one claim of an induction, as the code finds it.
use Rattle.std.specs.Prelude.{ℕ, List, [], ◌∷◌, Option, Some, None, if◌then◌else◌}
use Rattle.std.specs.List.{list_any}
use Rattle.smv_core.specs.Values.{Name}
use Rattle.smv_core.specs.declared.tree.Top.{Top}
use Rattle.law_strengthened_texts.specs.Stronger.{Found, is_ordset}
use Rattle.smv_strengthen.specs.declared.claims.Candidate.{Candidate}
use Rattle.smv_strengthen.specs.declared.place.Place.{Place}

-- where the claim's name stands, and its ordset
abbrev pub place_of : Found × Name → Place
place_of found = record { at = found.0.word.at; set = found.1 }

-- if an `ordset` declares the name
abbrev pub if_ordset : List Top → ℕ → Option Name → Option Place
if_ordset tops at (Some set) = if list_any (is_ordset set) tops then Some (record { at = at; set = set }) else None
if_ordset tops at None = None

abbrev pub one_place : List Top → Candidate → Option Place
one_place tops c = if_ordset tops c.at c.set

-- the only one
abbrev pub only_place : List Top → List Candidate → Option Place
only_place tops (c ∷ []) = one_place tops c
only_place tops _ = None
