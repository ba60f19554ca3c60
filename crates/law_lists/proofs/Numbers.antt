-- Numbers, and the tests that compare them.
use Rattle.std.proofs.Common.{◌≡◌, ◌≢◌, ℕ, ◌+◌, ◌*◌, ◌^◌, ◌<◌, ◌≤◌, Bool, true, false, cond, nat_eq, nat_lt, nat_le, ◌⊎◌, inl, inr, arith}
use Rattle.std.proofs.lemmas.Bool.{cases_lt}
use Rattle.std.proofs.lemmas.Bool.Decides.{nat_tests}
use Rattle.std.proofs.lemmas.Nat.{pow_below}

pub equal_or_not : (m n : ℕ) → (m ≡ n) ⊎ (m ≢ n)
equal_or_not m n = elim (cases_lt m n) [
  | inl lt ↦ inr (omega arith)
  | inr le ↦ elim (cases_lt n m) [ inl lt ↦ inr (omega arith) | inr is ↦ inl (omega arith) ]
]

-- a test of equality that passes, and one that does not
pub nat_eq-is : (m n : ℕ) → nat_eq m n ≡ true → m ≡ n
nat_eq-is m n e = grind arith

pub nat_eq-not : (m n : ℕ) → nat_eq m n ≡ false → m ≡ n → ⊥
nat_eq-not m n e h = grind arith

pub nat_eq-turned : (m n : ℕ) → nat_eq m n ≡ nat_eq n m
nat_eq-turned m n = grind arith

pub nat_eq-not_turned : (m n : ℕ) → nat_eq m n ≡ false → nat_eq n m ≡ false
nat_eq-not_turned m n e = grind arith

pub nat_eq-same : (m n : ℕ) → n ≡ m → nat_eq m n ≡ true
nat_eq-same m n e = grind arith

pub nat_eq-apart : (m n : ℕ) → m ≢ n → nat_eq m n ≡ false
nat_eq-apart m n ne = grind (arith, nat_tests)

pub nat_eq-other : (m n : ℕ) → n ≢ m → nat_eq m n ≡ false
nat_eq-other m n ne = grind (arith, nat_tests)

pub nat_eq-below : (m n : ℕ) → m < n → nat_eq m n ≡ false
nat_eq-below m n lt = grind arith

pub nat_eq-above : (m n : ℕ) → n < m → nat_eq m n ≡ false
nat_eq-above m n lt = grind arith

-- what tests of order say
pub nat_lt-is : (m n : ℕ) → nat_lt m n ≡ true → m < n
nat_lt-is m n e = grind arith

pub nat_lt-true : (m n : ℕ) → m < n → nat_lt m n ≡ true
nat_lt-true m n lt = grind arith

pub nat_lt-not : (m n : ℕ) → nat_lt m n ≡ false → n ≤ m
nat_lt-not m n e = grind arith

pub nat_lt-false : (m n : ℕ) → n ≤ m → nat_lt m n ≡ false
nat_lt-false m n le = grind arith

pub nat_le-is : (m n : ℕ) → nat_le m n ≡ true → m ≤ n
nat_le-is m n e = grind arith

pub nat_le-true : (m n : ℕ) → m ≤ n → nat_le m n ≡ true
nat_le-true m n le = grind arith

-- powers of two tell their exponents
pub pow_injective : (m n : ℕ) → 2 ^ m ≡ 2 ^ n → m ≡ n
pow_injective m n e = elim (cases_lt m n) [
  | inl lt ↦ absurd (omega (arith, pow_below m n lt, e))
  | inr le ↦ elim (cases_lt n m) [ inl lt ↦ absurd (omega (arith, pow_below n m lt, e)) | inr ge ↦ omega arith ]
]

-- one bit more before a number below p
pub bit_before : (b : Bool) (p n : ℕ) → n < p → cond b p 0 + n < 2 * p
bit_before true p n lt = omega arith
bit_before false p n lt = omega arith
