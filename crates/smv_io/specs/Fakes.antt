-- What contracts see of the sources and sinks in memory, and of the two over std's streams.
use Rattle.std.specs.Prelude.{ℕ, ◌+◌, ◌-◌, ◌^◌, ◌≤◌, ◌<◌, min, List, length}

-- a source in memory: the bytes that are left, the numbers of the calls that fail, and how many calls and faults there were
pub record Feed : Type 0 where
  pub left : List ℕ
  pub failing : List ℕ
  pub calls : ℕ
  pub faults : ℕ

-- a sink in memory: the bytes that it took, how many it has room for in all, the numbers of the calls that fail, and how many calls and faults there were
pub record Tank : Type 0 where
  pub taken : List ℕ
  pub room : ℕ
  pub failing : List ℕ
  pub calls : ℕ
  pub faults : ℕ

-- a stream of std, and how often it has failed
pub record Edge (S : Type 0) : Type 0 where
  pub stream : S
  pub faults : ℕ

-- how many bytes the sink has room for yet
abbrev pub room_left : Tank → ℕ
room_left tank = tank.room - length tank.taken

-- a piece that is not empty finds no room
abbrev pub FindsNoRoom : Tank → List ℕ → Type 0
FindsNoRoom tank piece = (0 < length piece) × (tank.room ≤ length tank.taken)

-- how many bytes a sink took, after n more
abbrev pub count_after : ℕ → ℕ → ℕ
count_after taken n = min (taken + n) (2 ^ 64 - 1)
