-- How an old document before a new design is read.
use Rattle.std.specs.Prelude.{ℕ, List, [], ◌∷◌, Option, Some, None, if◌then◌else◌, nat_eq, take, drop, codes}
use Rattle.std.specs.Str.{bytes_eq}
use Rattle.smv_proof.specs.Readings.{cut, number_of, pieces}

-- behind the old document stands a line feed, and then the design
abbrev pub parted : List ℕ → List ℕ → Option (List ℕ × List ℕ)
parted old [] = None
parted old (b ∷ text) = if nat_eq b 10 then Some (old, text) else None

-- the old document has so many bytes
abbrev pub parted_at : Option ℕ → List ℕ → Option (List ℕ × List ℕ)
parted_at (Some n) bytes = parted (take n bytes) (drop n bytes)
parted_at None bytes = None

abbrev pub old_length : List (List ℕ) → Option ℕ
old_length (word ∷ number ∷ []) = if bytes_eq word (codes "old") then number_of number else None
old_length _ = None

abbrev pub behind_old : Option (List ℕ × List ℕ) → Option (List ℕ × List ℕ)
behind_old (Some (line, rest)) = parted_at (old_length (pieces 32 line)) rest
behind_old None = None

-- the old document and the design that bytes hold
unfoldable pub old_in : List ℕ → Option (List ℕ × List ℕ)
old_in bytes = behind_old (cut 10 bytes)
