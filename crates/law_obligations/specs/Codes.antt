-- Codes: how many bits an element has, and which value a code is read as.
use Rattle.std.specs.Prelude.{ℕ, zero, suc, ◌+◌, ◌^◌, ◌≤◌, List, [], ◌∷◌, if◌then◌else◌, nat_le}
use Rattle.smv_core.specs.Values.{number}
use Rattle.law_obligations.specs.Places.{Place, named}
use Rattle.law_obligations.specs.Bits.{Bits}

-- the first number of bits from b on that has a code for each of so many values
abbrev pub bits_from : ℕ → ℕ → ℕ → ℕ
bits_from zero b values = b
bits_from (suc more) b values = if nat_le values (2 ^ b) then b else bits_from more (suc b) values

-- the bits of an element with so many abstract values
unfoldable pub bits_for : ℕ → ℕ
bits_for values = bits_from values 1 values

-- the least number that has a code for each value, and at least 1
pub record AreBits (values b : ℕ) : Type 0 where
  pub some : 1 ≤ b
  pub enough : values ≤ 2 ^ b
  pub least : (c : ℕ) → 1 ≤ c → values ≤ 2 ^ c → b ≤ c

-- the number that so many bits spell, from the highest on
abbrev pub code_from : Bits → ℕ → ℕ → ℕ
code_from s b zero = 0
code_from s b (suc n) = (if s b then 2 ^ n else 0) + code_from s (suc b) n

-- the value of a code: that at its position, and the last one for a code above the last
abbrev pub value_of_code : List Place → ℕ → Place
value_of_code [] code = named (number 0)
value_of_code (p ∷ []) code = p
value_of_code (p ∷ q ∷ places) zero = p
value_of_code (p ∷ q ∷ places) (suc code) = value_of_code (q ∷ places) code
