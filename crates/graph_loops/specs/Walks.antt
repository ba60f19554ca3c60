-- Walks through graphs, and loops. Begin here. A node is a number, and a graph has a list of the edges that leave each.
use Rattle.std.specs.Prelude.{◌≡◌, ℕ, ◌<◌, ◌≤◌, List, [], ◌∷◌, length, map, slice_get, Option, None, Some, if◌then◌else◌, nat_lt}
use Rattle.std.specs.List.{Contains}
use Rattle.std.specs.Global.{Vec}
use Rattle.graph_loops.specs.declared.edges.Edge.{Edge}

-- a graph that is held in vectors
abbrev pub lists : List (Vec Edge) → List (List Edge)
lists graph = map (λ (list : Vec Edge). list.items) graph

abbrev pub edges_in : Option (List Edge) → List Edge
edges_in None = []
edges_in (Some edges) = edges

-- the edges that leave a node
abbrev pub leaving : List (List Edge) → ℕ → List Edge
leaving graph x = edges_in (slice_get graph x)

-- a walk from a node to another, over edges at these places, one after another
abbrev pub Walk : List (List Edge) → ℕ → List ℕ → ℕ → Type 0
Walk graph x [] z = x ≡ z
Walk graph x (place ∷ places) z = (e : Edge) × Contains (leaving graph x) e × (e.place ≡ place) × Walk graph e.to places z

-- a walk over at least one edge from a node back to itself
abbrev pub IsLoop : List (List Edge) → ℕ → List ℕ → Type 0
IsLoop graph x places = (0 < length places) × Walk graph x places x

-- one from one of these nodes
abbrev pub IsLoopOf : List (List Edge) → List ℕ → List ℕ → Type 0
IsLoopOf graph targets places = (x : ℕ) × Contains targets x × IsLoop graph x places

-- no list where there is no loop, and else one of the shortest
abbrev pub IsShortest : (List ℕ → Type 0) → List ℕ → Type 0
IsShortest IsOne [] = (other : List ℕ) → IsOne other → ⊥
IsShortest IsOne (place ∷ places) = IsOne (place ∷ places) × ((other : List ℕ) → IsOne other → length (place ∷ places) ≤ length other)

-- the shorter of two, of which either may be none
abbrev pub shorter : List ℕ → List ℕ → List ℕ
shorter best [] = best
shorter [] (place ∷ places) = place ∷ places
shorter (first ∷ best) (place ∷ places) = if nat_lt (length (place ∷ places)) (length (first ∷ best)) then place ∷ places else first ∷ best
