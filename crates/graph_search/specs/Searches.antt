-- What a search finds: which nodes were seen, and the queue of those that wait or waited, in the order in which they came.
use Rattle.std.specs.Prelude.{◌≡◌, ℕ, ◌<◌, ◌≤◌, ◌⊎◌, List, length, Bool, true, false, slice_index, slice_index_or, count_by}
use Rattle.std.specs.List.{Contains}
use Rattle.graph_search.specs.Walks.{Walk}

-- a node was seen
abbrev pub IsSeen : List Bool → ℕ → Type 0
IsSeen seen x = slice_index_or seen x false ≡ true

-- all that is in a queue was seen, and it is no longer than there are nodes seen
pub record IsQueue (seen : List Bool) (queue : List ℕ) : Type 0 where
  pub few : length queue ≤ count_by (λ flag. flag) seen
  pub marked : (x : ℕ) → Contains queue x → IsSeen seen x

-- some walk leads to a node from one in a queue
abbrev pub IsReached : (ℕ → List ℕ) → List ℕ → ℕ → Type 0
IsReached after queue x = (q : ℕ) × Contains queue q × Walk after q x

-- A search is over: what was seen before and all that is in the queue is seen; each in the queue was there before or is newly seen, and is led to by a walk;
-- and all that follows one in the queue is seen.
pub record IsExplored (after : ℕ → List ℕ) (seen marks : List Bool) (queue longer : List ℕ) : Type 0 where
  pub room : length marks ≡ length seen
  pub kept : (x : ℕ) → IsSeen seen x → IsSeen marks x
  pub front : (x : ℕ) → Contains queue x → Contains longer x
  pub told : (x : ℕ) → IsSeen marks x → IsSeen seen x ⊎ Contains longer x
  pub marked : (x : ℕ) → Contains longer x → IsSeen marks x
  pub fresh : (x : ℕ) → Contains longer x → Contains queue x ⊎ (slice_index_or seen x false ≡ false)
  pub reached : (x : ℕ) → Contains longer x → IsReached after queue x
  pub closed : (x y : ℕ) → Contains longer x → Contains (after x) y → IsSeen marks y

-- these nodes were seen in addition
pub record Saw (nodes : List ℕ) (seen marks : List Bool) (queue longer : List ℕ) : Type 0 where
  pub room : length marks ≡ length seen
  pub few : length queue ≤ count_by (λ flag. flag) seen → length longer ≤ count_by (λ flag. flag) marks
  pub kept : (x : ℕ) → IsSeen seen x → IsSeen marks x
  pub grows : length queue ≤ length longer
  pub front : (k : ℕ) → k < length queue → slice_index longer k ≡ slice_index queue k
  pub each : (x : ℕ) → Contains nodes x → IsSeen marks x
  pub told : (x : ℕ) → IsSeen marks x → IsSeen seen x ⊎ Contains longer x
  pub fresh : (x : ℕ) → Contains longer x → Contains queue x ⊎ (Contains nodes x × (slice_index_or seen x false ≡ false) × IsSeen marks x)

-- a search so far: those that follow the first ones in the queue were seen
pub record IsSearch (after : ℕ → List ℕ) (turn : ℕ) (seen marks : List Bool) (queue longer : List ℕ) : Type 0 where
  pub room : length marks ≡ length seen
  pub few : length longer ≤ count_by (λ flag. flag) marks
  pub kept : (x : ℕ) → IsSeen seen x → IsSeen marks x
  pub front : (x : ℕ) → Contains queue x → Contains longer x
  pub told : (x : ℕ) → IsSeen marks x → IsSeen seen x ⊎ Contains longer x
  pub marked : (x : ℕ) → Contains longer x → IsSeen marks x
  pub fresh : (x : ℕ) → Contains longer x → Contains queue x ⊎ (slice_index_or seen x false ≡ false)
  pub reached : (x : ℕ) → Contains longer x → IsReached after queue x
  pub passed : (k : ℕ) → k < turn → k < length longer → (y : ℕ) → Contains (after (slice_index longer k)) y → IsSeen marks y
