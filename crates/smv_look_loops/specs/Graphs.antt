-- The graph of assignments: its nodes are their numbers in a list, and an edge leads from each to those of which it reads a cell.
use Rattle.std.specs.Prelude.{ℕ, ◌+◌, List, [], ◌∷◌, ◌++◌, map, Option, Some, None, nat_eq, if◌then◌else◌}
use Rattle.smv_core.specs.declared.flat.Family.{Family}
use Rattle.law_designs.specs.Reading.{Reading}
use Rattle.graph_loops.specs.declared.edges.Edge.{Edge}
use Rattle.smv_look_loops.specs.Shares.{first_place}

abbrev pub place_of : List Family → Reading → Reading → Option ℕ
place_of families a b = first_place families a.reads b

-- an edge to a node, where there is a place
abbrev pub edge_if : ℕ → Option ℕ → List Edge
edge_if node None = []
edge_if node (Some place) = record { to = node; place = place } ∷ []

-- the edges of an assignment to these, of which the first has this number
abbrev pub row : List Family → Reading → ℕ → List Reading → List Edge
row families a node [] = []
row families a node (b ∷ more) = edge_if node (place_of families a b) ++ row families a (node + 1) more

-- those of all
abbrev pub rows : List Family → List Reading → List (List Edge)
rows families all = map (λ (a : Reading). row families a 0 all) all

-- the numbers of those that stand at a place, where the first has this number
abbrev pub nodes_at : ℕ → ℕ → List Reading → List ℕ
nodes_at at node [] = []
nodes_at at node (a ∷ more) = (if nat_eq a.at at then node ∷ [] else []) ++ nodes_at at (node + 1) more
