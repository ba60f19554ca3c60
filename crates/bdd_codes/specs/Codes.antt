-- Codes of the current and of the next bits of an assignment, and the functions that tell them.
use Rattle.std.specs.Prelude.{◌≡◌, ℕ, ◌+◌, ◌-◌, ◌*◌, ◌^◌, ◌<◌, ◌≤◌, Bool, true, false, if◌then◌else◌, List, [], ◌∷◌, length, min, nat_eq}
use Rattle.bdd_store.specs.declared.Ref.{Ref}
use Rattle.bdd_store.specs.Diagram.{Diagram, table, ref_at}
use Rattle.law_obligations.specs.Bits.{Bits}
use Rattle.law_obligations.specs.Sets.{Has}

-- the current bits of an assignment, or the next ones, each at its place
abbrev pub bits_at : Bool → (ℕ → Bool) → Bits
bits_at false a p = a (2 * p)
bits_at true a p = a (2 * p + 1)

-- the number that the bits at these places spell, the highest first
unfoldable pub code_at : Bool → List ℕ → (ℕ → Bool) → ℕ
code_at next [] a = 0
code_at next (p ∷ ps) a = (if bits_at next a p then 2 ^ length ps else 0) + code_at next ps a

module _ (d : Diagram) where
  -- there are variables for these places
  abbrev pub AreWithin : List ℕ → Type 0
  AreWithin places = (p : ℕ) → Has places p → 2 * (p + 1) ≤ d.vars

  -- function k says that the code is k
  abbrev pub AreCodes : Bool → List ℕ → List Ref → Type 0
  AreCodes next places rs = (k : ℕ) → k < length rs → (a : ℕ → Bool) → table d (ref_at rs k) a ≡ nat_eq (code_at next places a) k

  -- function k says that the code is read as value k: a code above the last value is read as the last
  abbrev pub AreValues : Bool → List ℕ → List Ref → Type 0
  AreValues next places rs = (k : ℕ) → k < length rs → (a : ℕ → Bool) → table d (ref_at rs k) a ≡ nat_eq (min (code_at next places a) (length rs - 1)) k
