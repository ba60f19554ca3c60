-- What the steps find: edges that join nodes of one label, the first node of each label, and the first node of a component.
use Rattle.std.specs.Prelude.{ℕ, suc, ◌≤◌, List, [], ◌∷◌, filter, Bool, nat_eq, slice_index}
use Rattle.std.specs.List.{Contains}
use Rattle.graph_search.specs.Searches.{IsSeen}
use Rattle.graph_components.specs.Components.{AreRoots}

-- those of some nodes that have a label
abbrev pub alike : List ℕ → ℕ → List ℕ → List ℕ
alike labels label nodes = filter (λ x. nat_eq (slice_index labels x) label) nodes

-- of each node from a number on the edges to nodes of its label
abbrev pub inner : List ℕ → ℕ → List (List ℕ) → List (List ℕ)
inner labels x [] = []
inner labels x (nodes ∷ graph) = alike labels (slice_index labels x) nodes ∷ inner labels (suc x) graph

-- the labels of these nodes were met, and no two nodes have one
pub record AreMet (labels : List ℕ) (met : List Bool) (roots : List ℕ) : Type 0 where
  pub are_roots : AreRoots labels roots
  pub are_marked : (x : ℕ) → Contains roots x → IsSeen met (slice_index labels x)

-- the first node that is marked in both lists
pub record IsFirstBoth (marks others : List Bool) (first : ℕ) : Type 0 where
  pub there : IsSeen marks first
  pub and_back : IsSeen others first
  pub least : (x : ℕ) → IsSeen marks x → IsSeen others x → first ≤ x
