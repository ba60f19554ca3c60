-- What is read of bytes behind a state of reading.
use Rattle.std.specs.Prelude.{ℕ, List, [], ◌∷◌, ◌++◌, Option, Some, None}
use Rattle.smv_proof.specs.declared.proof.Node.{Node}
use Rattle.smv_proof.specs.declared.proof.KeptSet.{KeptSet}
use Rattle.smv_proof.specs.Readings.{pieces, Begun, Reading, followed, sets_from}

-- the sets that are read in all, where these bytes come next
abbrev pub onward : Option Reading → List ℕ → Option (List KeptSet)
onward reading bytes = followed reading (λ next. sets_from next (pieces 10 bytes))

-- a set with these lines
abbrev pub with_lines : KeptSet → List Node → KeptSet
with_lines set nodes = record { unit = set.unit; number = set.number; root = set.root; nodes = nodes }

-- a set with these lines, and how many more are due
abbrev pub begun_at : KeptSet → List Node → ℕ → Begun
begun_at set nodes due = record { set = with_lines set nodes; due = due }

-- these sets are read
abbrev pub between : List KeptSet → Option Reading
between sets = Some (record { sets = sets; begun = None })

-- these sets, and behind them one with these lines
abbrev pub with_set : List KeptSet → KeptSet → List Node → Option Reading
with_set sets set nodes = between (sets ++ with_lines set nodes ∷ [])
