-- The laws: what the crate's public functions say.
use Rattle.std.specs.Prelude.{◌≡◌, ℕ, true}
use Rattle.law_obligations.specs.May.{AbsState}
use Rattle.law_obligations.specs.Pictures.{IsAbsState}
use Rattle.law_obligations.specs.Bits.{Bits}
use Rattle.law_obligations.specs.Codes.{bits_for, AreBits}
use Rattle.law_obligations.specs.Readings.{PosedCase, IsCase, are_values, reading}

-- an element has the least number of bits that its values need, and at least one
abbrev pub BitsAreLeast : Type 0
BitsAreLeast = (values : ℕ) → AreBits values (bits_for values)

-- each assignment is read as an abstract state of the case
abbrev pub ReadingsAreStates : Type 0
ReadingsAreStates = (c : PosedCase) → IsCase c → (s : Bits) → IsAbsState c.problem.world c.problem.kept (reading c s)

-- and each abstract state is read from an assignment whose codes are all values
abbrev pub StatesAreRead : Type 0
StatesAreRead = (c : PosedCase) → IsCase c → (a : AbsState) → IsAbsState c.problem.world c.problem.kept a → (s : Bits) × (are_values c s ≡ true) × (reading c s ≡ a)
