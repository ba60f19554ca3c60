-- The cone of a case: which elements it keeps.
use Rattle.std.specs.Prelude.{ℕ, List, [], ◌∷◌, ◌++◌, map, flat_map, filter, take, length, slice_get, option_to_list, Option, Some, None, Bool, true, false, ◌&&◌, if◌then◌else◌, nat_eq}
use Rattle.std.specs.List.{list_any, list_all}
use Rattle.smv_core.specs.Values.{numbers_from}
use Rattle.smv_core.specs.Assignments.{Index, fixed, bare, computed}
use Rattle.smv_core.specs.declared.flat.Family.{Family}
use Rattle.smv_core.specs.declared.flat.Def.{Def}
use Rattle.smv_core.specs.declared.flat.Claim.{Claim}
use Rattle.smv_core.specs.declared.flat.DefBody.{DefBody}
use Rattle.smv_core.specs.declared.flat.FlatExpr.{FlatExpr}
use Rattle.law_obligations.specs.Sets.{one_of_each}
use Rattle.law_obligations.specs.Places.{Place, named, same_place, is_named, World, named_in, places_in}
use Rattle.law_obligations.specs.Soundness.{FlatUnit, map_of, claim_of, over_of}
use Rattle.law_obligations.specs.Reached.{reached, is_among}
use Rattle.law_obligations.specs.Reads.{is_own, is_bound_to, reads, part_reads}
use Rattle.law_obligations.specs.Outlines.{Entry, Outline, unit_in, assumed, chosen}

-- an element of a case, by its family's number and a place for each index
pub record AbsElement : Type 0 where
  pub family : ℕ
  pub indexes : List Place

abbrev pub element : ℕ → List Place → AbsElement
element family indexes = record { family = family; indexes = indexes }

-- the same places, one after the other
abbrev pub same_places : List Place → List Place → Bool
same_places [] [] = true
same_places (p ∷ ps) (q ∷ qs) = same_place p q && same_places ps qs
same_places _ _ = false

abbrev pub same_element : AbsElement → AbsElement → Bool
same_element x y = nat_eq x.family y.family && same_places x.indexes y.indexes

-- of these places those where an index of a reference may lie: that of a constant or of a bound variable, and any for another index
abbrev pub index_places : List Place → Index → List Place → List Place
index_places b (fixed None) ps = []
index_places b (fixed (Some v)) ps = filter (same_place (named v)) ps
index_places b (bare var) ps = filter (is_bound_to (slice_get b var)) ps
index_places b computed ps = ps

-- so for each type of a family; a missing index, which no text has, may lie anywhere
abbrev pub each_index : List Place → List Index → List (List Place) → List (List Place)
each_index b (i ∷ indexes) (ps ∷ pss) = index_places b i ps ∷ each_index b indexes pss
each_index b _ pss = pss

module _ (w : World) where
  -- the elements of a case: those whose indexes are all numbers and classes, in family order and then by their indexes
  abbrev pub elements_of : ℕ → List AbsElement
  elements_of family = map (element family) (one_of_each (map (named_in w) (over_of (slice_get w.classes.families family))))

  abbrev pub elements : List AbsElement
  elements = flat_map elements_of (numbers_from 0 (length w.classes.families))

  -- the elements that a reference reads
  abbrev pub elements_in : ℕ → List Index → List Place → Option Family → List AbsElement
  elements_in family indexes b None = []
  elements_in family indexes b (Some f) = map (element family) (one_of_each (each_index b indexes (map (named_in w) f.over)))

  abbrev pub elements_at : ℕ → List Index → List Place → List AbsElement
  elements_at family indexes b = elements_in family indexes b (slice_get w.classes.families family)

  -- those that an expression reads where its variables are bound to these places
  abbrev pub elements_read : FlatExpr → List Place → List AbsElement
  elements_read e b = reads (named_in w) elements_at e b

  -- those that a definition reads for an element of its family: for each assignment, at the values of its `forall` variables at which its
  -- left side has the element's own indexes, a rest too
  abbrev pub elements_of_def : List Place → Def → List AbsElement
  elements_of_def indexes def = of_part def.init ++ of_part def.next ++ of_part def.comb
    where
      of_part : DefBody → List AbsElement
      of_part part = part_reads (places_in w) (is_own indexes) (named_in w) elements_at part []

  -- those that an assumed claim reads, at all numbers and classes
  abbrev pub elements_assumed : Option Claim → List AbsElement
  elements_assumed None = []
  elements_assumed (Some claim) = flat_map (λ b. elements_read claim.body b) (one_of_each (map (λ p. named_in w p.over) claim.params))

  -- With what the cone of a case begins, where the leaf's parameters stand at these places: what the target reads, the element of a map if its
  -- indexes are numbers and classes, and what the guards and the assumed claims read.
  module _ (o : Outline) (entry : Entry) (params : List Place) where
    abbrev pub own_elements : Def → List Place → List AbsElement
    own_elements def indexes = (if list_all is_named indexes then element def.family indexes ∷ [] else []) ++ elements_of_def indexes def

    abbrev pub of_target : FlatUnit → List AbsElement
    of_target (map_of def) = own_elements def (take (length (over_of (slice_get o.design.families def.family))) params)
    of_target (claim_of claim) = elements_read claim.body (take (length claim.params) params)

    abbrev pub first_elements : List AbsElement
    first_elements =
        of_target (unit_in o.design entry.unit) ++ flat_map (λ g. elements_read g.expr params) entry.leaf.guards
        ++ flat_map (λ used. elements_assumed (assumed o used)) entry.choice.claims

    -- what the chosen definition of an element reads
    abbrev pub next_elements : AbsElement → List AbsElement
    next_elements x = flat_map (elements_of_def x.indexes) (option_to_list (chosen o entry.choice.picks x.family))

    -- the cone: the elements that are reached, in their order
    abbrev pub cone : List AbsElement
    cone = let found = reached same_element next_elements (length elements) first_elements in filter (is_among same_element next_elements found) elements

-- the elements of a cone are kept
abbrev pub kept : List AbsElement → ℕ → List Place → Bool
kept cone family indexes = list_any (same_element (element family indexes)) cone
