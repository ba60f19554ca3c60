-- The laws: what a code tells.
use Rattle.std.specs.Prelude.{◌≡◌, ◌<◌, ◌≤◌, ◌^◌, ℕ, All}
use Rattle.smv_waveforms.specs.Values.{code_of}

-- elements of one code have one number
abbrev pub CodesDiffer : Type 0
CodesDiffer = (m n : ℕ) → m < 94 ^ 10 → n < 94 ^ 10 → code_of m ≡ code_of n → m ≡ n

-- the bytes of a code
abbrev pub CodesArePrintable : Type 0
CodesArePrintable = (n : ℕ) → All (λ b. (33 ≤ b) × (b ≤ 126)) (code_of n)
