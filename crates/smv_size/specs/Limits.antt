-- Counts that are compared with a limit.
use Rattle.std.specs.Prelude.{ℕ, min}

-- a number of statements, up to one more than a text may have
abbrev pub capped : ℕ → ℕ
capped n = min 65537 n
