-- The verdict of a case: the first event of its schedule.
use Rattle.std.specs.Prelude.{◌≡◌, ◌≢◌, ℕ, suc, ◌+◌, ◌*◌, min, ◌<◌, ◌≤◌, List, [], ◌∷◌, ◌++◌, map}
use Rattle.bdd_store.specs.Beads.{truth_table, bead_count}
use Rattle.bdd_ops.specs.Functions.{Function}
use Rattle.smv_rings.specs.Functions.{never}
use Rattle.smv_rings.specs.Lists.{Lists}
use Rattle.smv_rings.specs.Schedule.{Look, Line, live, schedule}
use Rattle.smv_rings.specs.Schedule.Look.{Pass, Broken, Ring}

pub data Event : Type 0 where
  Counted : ℕ → Event  -- the budget of nodes is passed, and this is told of the count
  Reached : ℕ → Event  -- a violating path of so many steps exists
  Shut : ℕ → Event  -- the ring of this number equals the next one
  Images : Event  -- the budget of images is used up

pub record Budget : Type 0 where
  pub vars : ℕ
  pub nodes : ℕ
  pub images : ℕ

-- the beads of the live functions
unfoldable pub count : ℕ → Line → ℕ
count n line = bead_count n (map (truth_table n 0) (live line))

-- how far past the budget of nodes counts are told
abbrev pub margin : ℕ
margin = 1000000

-- what is told of a count past the budget: the count, or the budget and the margin where that is less
abbrev pub told : ℕ → ℕ → ℕ
told nodes n = min n (nodes + margin)

-- what is looked at decides nothing
abbrev pub Goes : ℕ → Function → Look → Type 0
Goes images f Pass = Unit {0}
Goes images f (Broken k) = f ≡ never
Goes images f (Ring k old) = (f ≢ old) × (k ≢ images)

-- what is looked at decides so
abbrev pub Settles : ℕ → Function → Look → Event → Type 0
Settles images f Pass v = ⊥
Settles images f (Broken k) (Reached j) = (f ≢ never) × (j ≡ k)
Settles images f (Broken k) _ = ⊥
Settles images f (Ring k old) (Shut j) = (f ≡ old) × (suc j ≡ k)
Settles images f (Ring k old) Images = (f ≢ old) × (k ≡ images)
Settles images f (Ring k old) _ = ⊥

-- a line at which nothing happens
abbrev pub IsUneventful : Budget → Line → Type 0
IsUneventful b line = (count b.vars line ≤ b.nodes) × Goes b.images line.made line.look

-- a line at which this happens; the count is looked at first
abbrev pub Decides : Budget → Line → Event → Type 0
Decides b line (Counted n) = (b.nodes < count b.vars line) × (n ≡ told b.nodes (count b.vars line))
Decides b line (Reached k) = (count b.vars line ≤ b.nodes) × Settles b.images line.made line.look (Reached k)
Decides b line (Shut k) = (count b.vars line ≤ b.nodes) × Settles b.images line.made line.look (Shut k)
Decides b line Images = (count b.vars line ≤ b.nodes) × Settles b.images line.made line.look Images

unfoldable pub AllUneventful : Budget → List Line → Type 0
AllUneventful b [] = Unit {0}
AllUneventful b (line ∷ lines) = IsUneventful b line × AllUneventful b lines

-- the first event of the lines
unfoldable pub First : Budget → List Line → Event → Type 0
First b lines v = (before : List Line) × (line : Line) × (behind : List Line) × (lines ≡ before ++ (line ∷ behind)) × AllUneventful b before × Decides b line v

-- the verdict of a case by its budgets
abbrev pub IsFirstEvent : Lists → ℕ → ℕ → Event → Type 0
IsFirstEvent l nodes images v = First (record { vars = 2 * l.bits; nodes = nodes; images = images }) (schedule l images) v
