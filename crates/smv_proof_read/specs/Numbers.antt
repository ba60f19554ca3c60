-- Numbers of a document.
use Rattle.std.specs.Prelude.{ℕ, nat_le, if◌then◌else◌, Option, Some, None}
use Rattle.smv_proof.specs.Documents.{most}

-- a value that is at most the greatest number
abbrev pub at_most : Option ℕ → Option ℕ
at_most (Some n) = if nat_le n most then Some n else None
at_most None = None
