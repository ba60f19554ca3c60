-- How far nodes are from a target, as far as is known.
use Rattle.std.specs.Prelude.{◌≡◌, ℕ, ◌+◌, ◌<◌, ◌≤◌, ◌⊎◌, List, length, slice_get, Option, Some, None, Bool, true, false, if◌then◌else◌, nat_eq}
use Rattle.std.specs.List.{Contains}
use Rattle.graph_loops.specs.declared.edges.Edge.{Edge}
use Rattle.graph_loops.specs.declared.edges.Mark.{Mark}
use Rattle.graph_loops.specs.Walks.{leaving, Walk}

abbrev pub unmarked : Mark
unmarked = record { steps = 0; edge = record { to = 0; place = 0 } }

abbrev pub steps_in : Option Mark → ℕ
steps_in None = 0
steps_in (Some mark) = mark.steps

-- over how many edges a node leads to the target, 0 where no way is known
abbrev pub steps_of : List Mark → ℕ → ℕ
steps_of marks node = steps_in (slice_get marks node)

-- it does over so many; over none the target itself does
abbrev pub is_level : List Mark → ℕ → ℕ → ℕ → Bool
is_level marks target steps node = if nat_eq steps 0 then nat_eq node target else nat_eq (steps_of marks node) steps

-- the edge of a mark leads to the target, or to a node that is one nearer to it
pub record IsNext (graph : List (List Edge)) (marks : List Mark) (target node : ℕ) (mark : Mark) : Type 0 where
  pub edge : Contains (leaving graph node) mark.edge
  pub nearer : ((mark.steps ≡ 1) × (mark.edge.to ≡ target)) ⊎ ((0 < steps_of marks mark.edge.to) × (mark.steps ≡ steps_of marks mark.edge.to + 1))

-- the marks of all nodes that lead to the target over at most so many edges
pub record AreMarks (graph : List (List Edge)) (target most : ℕ) (marks : List Mark) : Type 0 where
  pub room : length marks ≡ length graph
  pub sound : (node : ℕ) (mark : Mark) → slice_get marks node ≡ Some mark → 0 < mark.steps → (mark.steps ≤ most) × IsNext graph marks target node mark
  pub closed : (node steps : ℕ) (e : Edge) → Contains (leaving graph node) e → steps < most → is_level marks target steps e.to ≡ true → (0 < steps_of marks node) × (steps_of marks node ≤ steps + 1)

-- a node was marked before
abbrev pub IsKept : Mark → Mark → Type 0
IsKept old mark = (0 < old.steps) × (mark ≡ old)

module _ (edges : List Edge) (marks : List Mark) (target steps : ℕ) where
  -- it was not, and one of its edges leads to this level
  abbrev pub IsFresh : Mark → Mark → Type 0
  IsFresh old mark = (old.steps ≡ 0) × (mark.steps ≡ steps + 1) × Contains edges mark.edge × (is_level marks target steps mark.edge.to ≡ true)

  -- none of them does
  abbrev pub IsLeft : Mark → Mark → Type 0
  IsLeft old mark = (old.steps ≡ 0) × (mark ≡ old) × ((e : Edge) → Contains edges e → is_level marks target steps e.to ≡ false)

  -- the mark of a node with these edges behind this level
  abbrev pub IsMarked : Mark → Mark → Type 0
  IsMarked old mark = IsKept old mark ⊎ (IsFresh old mark ⊎ IsLeft old mark)

-- those of all nodes
pub record IsRound (graph : List (List Edge)) (marks : List Mark) (target steps : ℕ) (new : List Mark) : Type 0 where
  pub room : length new ≡ length marks
  pub each : (node : ℕ) (old mark : Mark) → slice_get marks node ≡ Some old → slice_get new node ≡ Some mark → IsMarked (leaving graph node) marks target steps old mark

-- the places of the edges from a node to the target
pub record IsFollowed (graph : List (List Edge)) (marks : List Mark) (target node : ℕ) (places : List ℕ) : Type 0 where
  pub walk : Walk graph node places target
  pub many : length places ≡ steps_of marks node
