-- The times of uses, by the graph of those that are open.
use Rattle.std.specs.Prelude.{ℕ, suc, List, [], ◌∷◌, ◌++◌, map, flat_map, Some, not, ◌||◌, if◌then◌else◌, nat_eq, nat_lt, slice_index}
use Rattle.smv_core.specs.declared.flat.Timing.{Timing}
use Rattle.smv_core.specs.declared.flat.Timing.TheVariants.{Before}
use Rattle.smv_core.specs.declared.flat.Timed.{Timed}
use Rattle.law_obligations.specs.Times.{time_of, unit_time}
use Rattle.smv_use_times.specs.declared.uses.Use.{Use}
use Rattle.smv_use_times.specs.declared.uses.Use.TheVariants.{Settled, Open}
use Rattle.smv_use_times.specs.Uses.{Uses}

-- the unit that a use names, other than the unit itself
abbrev pub edge_of : ℕ → Use → List ℕ
edge_of u (Settled time) = []
edge_of u (Open v) = if nat_eq v u then [] else v ∷ []

abbrev pub edges_of : ℕ → Uses → List ℕ
edges_of u uses = flat_map (edge_of u) uses.picks ++ flat_map (edge_of u) uses.claims

-- those of each unit from a place on
abbrev pub edges_from : ℕ → List Uses → List (List ℕ)
edges_from u [] = []
edges_from u (uses ∷ all) = edges_of u uses ∷ edges_from (suc u) all

-- the time of a use
abbrev pub use_time : List (List ℕ) → ℕ → Use → Timing
use_time edges u (Settled time) = time
use_time edges u (Open v) = unit_time edges u (Some v)

abbrev pub times_of : List (List ℕ) → ℕ → Uses → Timed
times_of edges u uses = record { picks = map (use_time edges u) uses.picks; claims = map (use_time edges u) uses.claims }

abbrev pub times_from : List (List ℕ) → ℕ → List Uses → List Timed
times_from edges u [] = []
times_from edges u (uses ∷ all) = times_of edges u uses ∷ times_from edges (suc u) all

-- the time of a use, by labels of the components of the graph
abbrev pub time_by : List ℕ → ℕ → Use → Timing
time_by labels u (Settled time) = time
time_by labels u (Open v) = if nat_eq v u then Before else time_of (not (nat_eq (slice_index labels v) (slice_index labels u)) || nat_lt v u)

abbrev pub timed_by : List ℕ → ℕ → Uses → Timed
timed_by labels u uses = record { picks = map (time_by labels u) uses.picks; claims = map (time_by labels u) uses.claims }

abbrev pub timed_from : List ℕ → ℕ → List Uses → List Timed
timed_from labels u [] = []
timed_from labels u (uses ∷ all) = timed_by labels u uses ∷ timed_from labels (suc u) all
