-- Graphs from the ends of their edges.
use Rattle.std.specs.Prelude.{◌≡◌, ℕ, ◌<◌, ◌↔◌, ◌⊎◌, List, [], length, slice_index, slice_index_or}
use Rattle.std.specs.List.{Contains}

-- the nodes that follow a node, where each has a list of its own
abbrev pub after : List (List ℕ) → ℕ → List ℕ
after graph x = slice_index_or graph x []

-- each edge leads to a node
abbrev pub IsGraph : List (List ℕ) → Type 0
IsGraph graph = (x y : ℕ) → Contains (after graph x) y → y < length graph

-- each node has a list of those that it follows
pub record IsReverse (graph back : List (List ℕ)) : Type 0 where
  pub room : length back ≡ length graph
  pub edges : (x y : ℕ) → Contains (after back y) x ↔ Contains (after graph x) y

-- these nodes are followed by a node, in addition
pub record IsNoted (nodes : List ℕ) (node : ℕ) (back longer : List (List ℕ)) : Type 0 where
  pub room : length longer ≡ length back
  pub edges : (x y : ℕ) → Contains (after longer y) x ↔ (Contains (after back y) x ⊎ ((x ≡ node) × Contains nodes y))

-- each number below this one at its place
pub record AreNumbers (count : ℕ) (numbers : List ℕ) : Type 0 where
  pub room : length numbers ≡ count
  pub each : (k : ℕ) → k < count → slice_index numbers k ≡ k
