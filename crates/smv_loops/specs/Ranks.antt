-- Ranks of numbered cells: 0 stands for none. An assignment is given by the numbers of the cells that it concerns and of those that it reads.
use Rattle.std.specs.Prelude.{◌≡◌, ℕ, ◌<◌, ◌≤◌, ◌⊎◌, List, length, Bool, true, false, not, ◌&&◌, nat_eq, if◌then◌else◌, slice_index_or, count_by}
use Rattle.std.specs.List.{All, Contains}
use Rattle.smv_loops.specs.declared.ranks.Links.{Links}

abbrev pub rank : List ℕ → ℕ → ℕ
rank ranks cell = slice_index_or ranks cell 0

abbrev pub rank_at : List ℕ → List ℕ → ℕ → ℕ
rank_at ranks cells k = slice_index_or ranks (slice_index_or cells k 0) 0

-- each of these cells has a rank, and none is above this
abbrev pub AreRanked : List ℕ → List ℕ → ℕ → Type 0
AreRanked ranks cells most = (b : ℕ) → b < length cells → (0 < rank_at ranks cells b) × (rank_at ranks cells b ≤ most)

-- one of these cells has no rank
abbrev pub IsOpen : List ℕ → List ℕ → Type 0
IsOpen ranks cells = (b : ℕ) × (b < length cells) × (rank_at ranks cells b ≡ 0)

-- where a cell that is concerned has a rank, each that is read has a smaller one
abbrev pub Falls : List ℕ → Links → Type 0
Falls ranks link = (a b : ℕ) → a < length link.from.items → b < length link.to.items → 0 < rank_at ranks link.from.items a → (0 < rank_at ranks link.to.items b) × (rank_at ranks link.to.items b < rank_at ranks link.from.items a)

-- an assignment concerns the cell and reads one that has no rank
abbrev pub IsHeldUp : List ℕ → List Links → ℕ → Type 0
IsHeldUp ranks links cell = (link : Links) × Contains links link × Contains link.from.items cell × IsOpen ranks link.to.items

-- the cells that are concerned have numbers below this
abbrev pub AreBelow : ℕ → List Links → Type 0
AreBelow cells links = All (λ (link : Links). (a : ℕ) → a < length link.from.items → slice_index_or link.from.items a 0 < cells) links

abbrev pub flag : List Bool → ℕ → Bool
flag flags cell = slice_index_or flags cell false

-- the flags are of the cells that are held up
pub record AreHeldUp (ranks : List ℕ) (links : List Links) (flags : List Bool) : Type 0 where
  pub room : length flags ≡ length ranks
  pub is_one : (cell : ℕ) → flag flags cell ≡ true → IsHeldUp ranks links cell
  pub each : All (λ (link : Links). IsOpen ranks link.to.items → (a : ℕ) → a < length link.from.items → flag flags (slice_index_or link.from.items a 0) ≡ true) links

-- these cells were flagged in addition
pub record Flagged (cells : List ℕ) (old new : List Bool) : Type 0 where
  pub room : length new ≡ length old
  pub kept : (cell : ℕ) → flag old cell ≡ true → flag new cell ≡ true
  pub is_one : (cell : ℕ) → flag new cell ≡ true → (flag old cell ≡ true) ⊎ Contains cells cell
  pub each : (a : ℕ) → a < length cells → flag new (slice_index_or cells a 0) ≡ true

-- those that an assignment concerns were flagged in addition, where it reads one without a rank
pub record FlaggedBy (ranks : List ℕ) (link : Links) (old new : List Bool) : Type 0 where
  pub room : length new ≡ length old
  pub kept : (cell : ℕ) → flag old cell ≡ true → flag new cell ≡ true
  pub is_one : (cell : ℕ) → flag new cell ≡ true → (flag old cell ≡ true) ⊎ (Contains link.from.items cell × IsOpen ranks link.to.items)
  pub each : IsOpen ranks link.to.items → (a : ℕ) → a < length link.from.items → flag new (slice_index_or link.from.items a 0) ≡ true

-- how many cells have no rank
abbrev pub unranked : List ℕ → ℕ
unranked ranks = count_by (λ r. nat_eq r 0) ranks

-- a cell without a rank and a flag gets the next rank
abbrev pub raised : Bool → ℕ → ℕ → ℕ
raised flag next r = if nat_eq r 0 && not flag then next else r

pub record Raised (flags : List Bool) (next : ℕ) (old new : List ℕ) (moved : Bool) : Type 0 where
  pub room : length new ≡ length old
  pub each : (cell : ℕ) → cell < length old → rank new cell ≡ raised (flag flags cell) next (rank old cell)
  pub fewer : moved ≡ true → unranked new < unranked old
  pub still : moved ≡ false → new ≡ old
  pub stuck : moved ≡ false → (cell : ℕ) → cell < length old → rank old cell ≡ 0 → flag flags cell ≡ true

-- each edge between ranked cells falls, and each cell without a rank is held up
pub record AreSettled (cells : ℕ) (links : List Links) (ranks : List ℕ) : Type 0 where
  pub room : length ranks ≡ cells
  pub fall : All (Falls ranks) links
  pub stuck : (cell : ℕ) → cell < cells → rank ranks cell ≡ 0 → IsHeldUp ranks links cell
