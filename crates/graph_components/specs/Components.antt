-- What labels of the nodes of a graph say. Begin with `AreComponents`.
use Rattle.std.specs.Prelude.{◌≡◌, ℕ, ◌<◌, ◌≤◌, ◌↔◌, List, length, slice_index}
use Rattle.std.specs.List.{Contains}
use Rattle.graph_search.specs.Walks.{Walk}
use Rattle.graph_search.specs.Searches.{IsReached}
use Rattle.graph_search.specs.Reverse.{after}

-- each of two nodes leads to the other: they are of one strongly connected component
abbrev pub AreMates : List (List ℕ) → ℕ → ℕ → Type 0
AreMates graph x y = Walk (after graph) x y × Walk (after graph) y x

-- a label for each node, and two nodes have one label exactly where each leads to the other
pub record AreComponents (graph : List (List ℕ)) (labels : List ℕ) : Type 0 where
  pub room : length labels ≡ length graph
  pub same : (x y : ℕ) → x < length graph → y < length graph → (slice_index labels x ≡ slice_index labels y) ↔ AreMates graph x y

-- the first node of the component of a node
pub record IsFirstMate (graph : List (List ℕ)) (x first : ℕ) : Type 0 where
  pub mate : AreMates graph x first
  pub least : (y : ℕ) → AreMates graph x y → first ≤ y

-- along edges labels do not fall
abbrev pub Rises : List (List ℕ) → List ℕ → Type 0
Rises graph labels = (x y : ℕ) → Contains (after graph x) y → slice_index labels x ≤ slice_index labels y

-- edges of a graph that join nodes of one label
pub record IsInner (graph : List (List ℕ)) (labels : List ℕ) (inner : List (List ℕ)) : Type 0 where
  pub room : length inner ≡ length graph
  pub edges : (x y : ℕ) → Contains (after inner x) y → Contains (after graph x) y × (slice_index labels x ≡ slice_index labels y)

-- nodes of which no two have one label
pub record AreRoots (labels roots : List ℕ) : Type 0 where
  pub nodes : (x : ℕ) → Contains roots x → x < length labels
  pub apart : (x y : ℕ) → Contains roots x → Contains roots y → slice_index labels x ≡ slice_index labels y → x ≡ y

-- some of these nodes lead to each node
abbrev pub IsAllFound : List (List ℕ) → List ℕ → Type 0
IsAllFound graph roots = (x : ℕ) → x < length graph → IsReached (after graph) roots x

-- and each node leads to some of them
pub record IsJoined (graph : List (List ℕ)) (roots : List ℕ) : Type 0 where
  pub found : IsAllFound graph roots
  pub leads : (x : ℕ) → x < length graph → (r : ℕ) × Contains roots r × Walk (after graph) x r
