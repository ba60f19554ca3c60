-- Graphs: a list, for each node, of the nodes to which it has an edge. The nodes are numbers below the length.
use Rattle.std.specs.Prelude.{ℕ, zero, suc, ◌<◌, List, [], map, length, Bool, ◌||◌, nat_eq, slice_index_or}
use Rattle.std.specs.List.{list_any}
use Rattle.std.specs.Global.{Vec}

-- the nodes to which a node has an edge
abbrev pub next : List (List ℕ) → ℕ → List ℕ
next graph node = slice_index_or graph node []

-- a node is another one, or leads to it over at most so many edges
abbrev pub reaches : List (List ℕ) → ℕ → ℕ → ℕ → Bool
reaches graph zero target node = nat_eq node target
reaches graph (suc n) target node = nat_eq node target || list_any (reaches graph n target) (next graph node)

-- each edge leads to a node
abbrev pub IsGraph : List (List ℕ) → Type 0
IsGraph graph = (node i : ℕ) → i < length (next graph node) → slice_index_or (next graph node) i 0 < length graph

-- a graph that is held in vectors
abbrev pub lists : List (Vec ℕ) → List (List ℕ)
lists graph = map (λ (edges : Vec ℕ). edges.items) graph
