-- Graphs and walks through them. Begin here. A node is a number, and a graph says which nodes follow each.
use Rattle.std.specs.Prelude.{ℕ, List, [], map, slice_get, Option, Some, None}
use Rattle.std.specs.List.{Contains}
use Rattle.std.specs.Global.{Vec}

-- a graph that is held in vectors
abbrev pub lists : List (Vec ℕ) → List (List ℕ)
lists graph = map (λ (list : Vec ℕ). list.items) graph

-- the list at a place; where there is none it is empty
abbrev pub held : Option (List ℕ) → List ℕ
held None = []
held (Some list) = list

abbrev pub list_at : List (List ℕ) → Option ℕ → List ℕ
list_at graph None = []
list_at graph (Some place) = held (slice_get graph place)

-- the nodes that follow a node: those in the list that is named for it
abbrev pub follow : List (List ℕ) → List ℕ → ℕ → List ℕ
follow graph next x = list_at graph (slice_get next x)

-- a walk from a node to another: each node on it is followed by the next
pub data Walk (after : ℕ → List ℕ) : ℕ → ℕ → Type 0 where
  here : {x : ℕ} → Walk after x x
  step : {x y z : ℕ} → Contains (after x) y → Walk after y z → Walk after x z
