-- What reading all and writing all do to the bytes of a source and a sink, where these are told.
use Rattle.std.specs.Prelude.{ℕ, ◌≤◌, ◌<◌, List, length, take, Option, IfSome}
use Rattle.std.specs.Io.KnownBytes.{Appends, Consumes}

-- more than `limit` bytes came
abbrev pub MoreCame : Option (List ℕ) → ℕ → Type 0
MoreCame left limit = IfSome left (λ bytes. limit < length bytes)

-- the source gave a front of its bytes, of at most `limit`, and has the others left
abbrev pub GaveWithin : Option (List ℕ) → Option (List ℕ) → ℕ → Type 0
GaveWithin old new limit = (front : List ℕ) × (length front ≤ limit) × Consumes old new front

-- the source gave a front of its bytes, of more than `limit`, and has the others left
abbrev pub GaveBeyond : Option (List ℕ) → Option (List ℕ) → ℕ → Type 0
GaveBeyond old new limit = (front : List ℕ) × (limit < length front) × Consumes old new front

-- the sink took a front of the piece, and not all of it
abbrev pub TookFront : Option (List ℕ) → Option (List ℕ) → List ℕ → Type 0
TookFront old new piece = (n : ℕ) × (n < length piece) × Appends old new (take n piece)
