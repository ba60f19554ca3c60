-- Ranks of the nodes of a graph, and orders of its nodes.
use Rattle.std.specs.Prelude.{◌≢◌, ℕ, ◌<◌, ◌≤◌, List, length, take, slice_index_or}
use Rattle.std.specs.List.{All, AllPairs, Any, Contains}
use Rattle.graphs.specs.Graph.{next}

-- the rank of a node
abbrev pub rank : List ℕ → ℕ → ℕ
rank ranks node = slice_index_or ranks node 0

-- none of these nodes has a higher rank
abbrev pub IsNoneAbove : List ℕ → ℕ → List ℕ → Type 0
IsNoneAbove ranks most nodes = (i : ℕ) → i < length nodes → rank ranks (slice_index_or nodes i 0) ≤ most

-- no edge leads to a node of a higher rank
abbrev pub Descends : List (List ℕ) → List ℕ → Type 0
Descends graph ranks = (node : ℕ) → IsNoneAbove ranks (rank ranks node) (next graph node)

-- a node does not stand in an order
abbrev pub IsLeftOut : List ℕ → ℕ → Type 0
IsLeftOut order node = Contains order node → ⊥

-- An order of nodes of a graph: none stands in it twice, each stands behind all to which it has an edge, and one that is left out has an edge to one that is left out.
pub record IsOrder (graph : List (List ℕ)) (order : List ℕ) : Type 0 where
  pub nodes : All (λ node. node < length graph) order
  pub once : AllPairs (λ earlier later. earlier ≢ later) order
  pub behind : (place : ℕ) → place < length order → All (Contains (take place order)) (next graph (slice_index_or order place 0))
  pub left_out : (node : ℕ) → node < length graph → IsLeftOut order node → Any (IsLeftOut order) (next graph node)
