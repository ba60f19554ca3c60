-- Zero-delay loops: a cell that reads itself at one time, through others or alone (SMV language manual; the cells and their edges are a choice of this project).
use Rattle.std.specs.Prelude.{ℕ, zero, suc, ◌+◌, ◌-◌, List, [], ◌∷◌, ◌++◌, map, flat_map, filter, zip, length, slice_get, Option, Some, None, Bool, true, false, not, ◌&&◌, if◌then◌else◌, is_none, nat_eq, nat_lt}
use Rattle.std.specs.List.{list_any}
use Rattle.smv_core.specs.Values.{numbers_from, number}
use Rattle.smv_core.specs.Assignments.{Index, fixed, fits}
use Rattle.smv_core.specs.declared.flat.Simple.{Simple}
use Rattle.smv_core.specs.declared.flat.Simple.TheVariants.{Range}
use Rattle.smv_core.specs.declared.flat.Family.{Family}
use Rattle.smv_core.specs.declared.flat.Cell.{Cell}
use Rattle.smv_core.specs.declared.flat.Def.{Def}
use Rattle.smv_core.specs.declared.flat.Design.{Design}
use Rattle.law_designs.specs.WholeText.{is_one_layer}
use Rattle.law_designs.specs.Reading.{Reference, Reading, readings}

-- ---- base definitions

module _ (d : Design) where
  -- of an abstract family a definition in a layer may be the base definition, of another that outside layers
  abbrev pub may_be_base : Option Family → Def → Bool
  may_be_base None def = false
  may_be_base (Some f) def = if f.is_abstract then not (is_none def.layer) else is_none def.layer

  -- another definition of the family that may be its base definition stands before
  abbrev pub is_behind : Def → Def → Bool
  is_behind def other = nat_eq other.family def.family && (nat_lt other.place def.place && may_be_base (slice_get d.families other.family) other)

  -- the base definition of its family: the first that may be (that an abstract signal has that of the layer which stands first is a choice of this project)
  abbrev pub is_base : Def → Bool
  is_base def = may_be_base (slice_get d.families def.family) def && not (list_any (is_behind def) d.defs)

-- ---- cells

-- a constant alone
abbrev pub is_constant : Index → Bool
is_constant (fixed u) = true
is_constant _ = false

-- what a cell has at an index: over a range each number that the index may be; over a set type none, and no constant fits there
abbrev pub at_index : Simple → Index → List (Option ℕ)
at_index (Range low high) i = map Some (filter (λ k. fits i (number k)) (numbers_from low (high + 1 - low)))
at_index _ i = if is_constant i then [] else None ∷ []

-- each way to take one of each list
abbrev pub ways : {X : Type 0} → List (List X) → List (List X)
ways [] = [] ∷ []
ways (choices ∷ more) = flat_map (λ x. map (λ xs. x ∷ xs) (ways more)) choices

-- the cells of a family with these indexes: a constant is that number alone, and any other index is every number
abbrev pub cells_of : Option Family → ℕ → List Index → List Cell
cells_of None family indexes = []
cells_of (Some f) family indexes = map (λ (is : List (Option ℕ)). record { family = family; indexes = is }) (ways (map (λ (over, i). at_index over i) (zip f.over indexes)))

abbrev pub same_indexes : List (Option ℕ) → List (Option ℕ) → Bool
same_indexes [] [] = true
same_indexes (i ∷ is) (j ∷ js) = is_one_layer i j && same_indexes is js
same_indexes _ _ = false

abbrev pub same_cell : Cell → Cell → Bool
same_cell a b = nat_eq a.family b.family && same_indexes a.indexes b.indexes

-- ---- edges

-- from a cell to one that it reads at the same time
abbrev pub Edge : Type 0
Edge = Cell × Cell

module _ (d : Design) where
  abbrev pub cells : ℕ → List Index → List Cell
  cells family indexes = cells_of (slice_get d.families family) family indexes

  -- from each cell that an assignment concerns to each that it reads
  abbrev pub edges_of : Reading → List Edge
  edges_of a = flat_map (λ from. map (λ to. (from, to)) (flat_map (λ (r : Reference). cells r.family r.indexes) a.reads)) (cells a.family a.left)

-- an edge leads to a cell from which one of these edges goes on
abbrev pub leads_on : List Edge → Edge → Bool
leads_on edges (from, to) = list_any (λ (other, next). same_cell to other) edges

-- the edges that lead on
abbrev pub going_on : List Edge → List Edge
going_on edges = filter (leads_on edges) edges

-- so many times only those edges are kept that lead on
abbrev pub kept : ℕ → List Edge → List Edge
kept zero edges = edges
kept (suc n) edges = kept n (going_on edges)

-- at least one
abbrev pub are_some : List Edge → Bool
are_some [] = false
are_some (edge ∷ edges) = true

-- some edges hold a cycle where one of them leads on and on, for as many steps as there are edges
abbrev pub hold_a_cycle : List Edge → Bool
hold_a_cycle edges = are_some (kept (length edges) edges)

-- ---- fault 18: the assignment with which the edges first hold a cycle

-- put before the first that stands later in flat order
abbrev pub put : Reading → List Reading → List Reading
put a [] = a ∷ []
put a (b ∷ more) = if nat_lt a.place b.place then a ∷ b ∷ more else b ∷ put a more

abbrev pub in_order : List Reading → List Reading
in_order [] = []
in_order (a ∷ more) = put a (in_order more)

-- what holds at one time: the `:=` and `init` assignments of a definition; a `next` has a delay
abbrev pub undelayed : Def → List Reading
undelayed def = readings def.family [] def.comb ++ readings def.family [] def.init

module _ (d : Design) where
  -- those of the base definitions, in flat order
  abbrev pub undelayed_in : List Reading
  undelayed_in = in_order (flat_map undelayed (filter (is_base d) d.defs))

  -- the offset of the one with which these edges first hold a cycle
  abbrev pub closing : List Edge → List Reading → List ℕ
  closing edges [] = []
  closing edges (a ∷ more) = if hold_a_cycle (edges ++ edges_of d a) then a.at ∷ [] else closing (edges ++ edges_of d a) more

  abbrev pub looping : List ℕ
  looping = closing [] undelayed_in
