-- How an order grows: which nodes have a place, and the order in which they came.
use Rattle.std.specs.Prelude.{◌≡◌, ◌≢◌, ℕ, ◌<◌, ◌⊎◌, List, length, take, Bool, true, false, slice_index_or, count_by}
use Rattle.std.specs.List.{All, AllPairs, Any, Contains}
use Rattle.graphs.specs.Graph.{next}
use Rattle.graph_search.specs.Searches.{IsSeen}

-- a node has no place
abbrev pub HasNone : List Bool → ℕ → Type 0
HasNone placed node = slice_index_or placed node false ≡ false

-- a node has a place, or an edge to one that has none
abbrev pub IsSettled : List (List ℕ) → List Bool → ℕ → Type 0
IsSettled graph placed node = IsSeen placed node ⊎ Any (HasNone placed) (next graph node)

-- an order so far, of the nodes that have a place
pub record Placed (graph : List (List ℕ)) (placed : List Bool) (order : List ℕ) : Type 0 where
  pub room : length placed ≡ length graph
  pub counted : length order ≡ count_by (λ flag. flag) placed
  pub nodes : All (λ node. node < length graph) order
  pub has : All (IsSeen placed) order
  pub stands : (node : ℕ) → IsSeen placed node → Contains order node
  pub once : AllPairs (λ earlier later. earlier ≢ later) order
  pub behind : (place : ℕ) → place < length order → All (Contains (take place order)) (next graph (slice_index_or order place 0))

-- Some of the nodes below this may have come; where none has, each is settled.
pub record Came (graph : List (List ℕ)) (nodes : ℕ → Type 0) (placed after : List Bool) (order longer : List ℕ) (came : Bool) : Type 0 where
  pub so_far : Placed graph after longer
  pub grows : came ≡ true → length order < length longer
  pub same_placed : came ≡ false → after ≡ placed
  pub same_order : came ≡ false → longer ≡ order
  pub settled : came ≡ false → (node : ℕ) → nodes node → IsSettled graph placed node
