-- Bits and codes.
use Rattle.std.proofs.Common.{◌≡◌, ℕ, zero, suc, ◌+◌, ◌-◌, ◌^◌, ◌<◌, ◌≤◌, List, [], ◌∷◌, length, Bool, true, false, cond, refl, ap, subst, ◌∙◌, inl, inr, arith, nat_le}
use Rattle.std.proofs.lemmas.Bool.Decides.{nat_tests}
use Rattle.std.proofs.lemmas.Bool.{cases_lt}
use Rattle.law_obligations.specs.Sets.{Has, first, later}
use Rattle.law_obligations.specs.Places.{Place}
use Rattle.law_obligations.specs.Bits.{Bits}
use Rattle.law_obligations.specs.Codes.{bits_from, bits_for, AreBits, code_from, value_of_code}

pow_some : (m : ℕ) → 0 < 2 ^ m
pow_some zero = grind arith
pow_some (suc m) = grind (arith, pow_some m)

below_power : (n : ℕ) → n ≤ 2 ^ n
below_power zero = grind arith
below_power (suc n) = grind (arith, below_power n, pow_some n)

bits_enough : (more b j n : ℕ) → j ≡ more + b → n ≤ 2 ^ j → n ≤ 2 ^ bits_from more b n
bits_enough zero b j n e h = let same : j ≡ b = omega arith in subst (λ (k : ℕ). n ≤ 2 ^ k) same h
bits_enough (suc more) b j n e h = by_test (nat_le n (2 ^ b)) refl (bits_enough more (suc b) j n (omega arith) h)
  where
    by_test : (t : Bool) → nat_le n (2 ^ b) ≡ t → n ≤ 2 ^ bits_from more (suc b) n → n ≤ 2 ^ cond t b (bits_from more (suc b) n)
    by_test true q goes = grind (arith, nat_tests)
    by_test false q goes = goes

bits_least : (more b n c : ℕ) → n ≤ 2 ^ c → b ≤ c → bits_from more b n ≤ c
bits_least zero b n c h le = le
bits_least (suc more) b n c h le = by_test (nat_le n (2 ^ b)) refl (λ l. bits_least more (suc b) n c h l)
  where
    by_test : (t : Bool) → nat_le n (2 ^ b) ≡ t → (suc b ≤ c → bits_from more (suc b) n ≤ c) → cond t b (bits_from more (suc b) n) ≤ c
    by_test true q goes = le
    by_test false q goes = elim (cases_lt b c) [
      | inl lt ↦ goes lt
      | inr past ↦ absurd (
          let same : c ≡ b = omega arith in
          let low : n ≤ 2 ^ b = subst (λ (k : ℕ). n ≤ 2 ^ k) same h in
          let high : 2 ^ b < n = grind (arith, nat_tests) in
          omega arith)
    ]

bits_some : (more b n : ℕ) → b ≤ bits_from more b n
bits_some zero b n = omega arith
bits_some (suc more) b n = by_test (nat_le n (2 ^ b)) (bits_some more (suc b) n)
  where
    by_test : (t : Bool) → suc b ≤ bits_from more (suc b) n → b ≤ cond t b (bits_from more (suc b) n)
    by_test true goes = omega arith
    by_test false goes = omega arith

pub bits_are : (n : ℕ) → AreBits n (bits_for n)
unfolding bits_for
bits_are n = record {
  some = bits_some n 1 n;
  enough = bits_enough n 1 (suc n) n (omega arith) (grind (arith, below_power n, pow_some n));
  least = λ c one h. bits_least n 1 n c h one;
}

-- ---- codes

rest : ℕ → ℕ → ℕ
rest n k = cond (nat_le (2 ^ n) k) (k - 2 ^ n) k

-- so many bits of a number, from the highest on
pub spell : ℕ → ℕ → ℕ → Bool
spell zero k i = false
spell (suc n) k zero = nat_le (2 ^ n) k
spell (suc n) k (suc i) = spell n (rest n k) i

rest_less : (n k : ℕ) → k < 2 ^ suc n → rest n k < 2 ^ n
unfolding rest
rest_less n k lt = by_test (nat_le (2 ^ n) k) refl
  where
    by_test : (t : Bool) → nat_le (2 ^ n) k ≡ t → cond t (k - 2 ^ n) k < 2 ^ n
    by_test true q = grind (arith, nat_tests)
    by_test false q = grind (arith, nat_tests)

rest_with : (n k : ℕ) → cond (nat_le (2 ^ n) k) (2 ^ n) 0 + rest n k ≡ k
unfolding rest
rest_with n k = by_test (nat_le (2 ^ n) k) refl
  where
    by_test : (t : Bool) → nat_le (2 ^ n) k ≡ t → cond t (2 ^ n) 0 + cond t (k - 2 ^ n) k ≡ k
    by_test true q = grind (arith, nat_tests)
    by_test false q = omega arith

pub code_spelled : (s : Bits) (b n k : ℕ) → k < 2 ^ n → ((i : ℕ) → i < n → s (b + i) ≡ spell n k i) → code_from s b n ≡ k
unfolding spell
code_spelled s b zero k lt same = grind arith
code_spelled s b (suc n) k lt same =
    let head : s b ≡ nat_le (2 ^ n) k = ap s (omega arith) ∙ same 0 (omega arith) in
    let tail : code_from s (suc b) n ≡ rest n k = code_spelled s (suc b) n (rest n k) (rest_less n k lt) (λ i li. ap s (omega arith) ∙ same (suc i) (omega arith)) in
    ap (λ x. cond x (2 ^ n) 0 + code_from s (suc b) n) head ∙ ap (λ x. cond (nat_le (2 ^ n) k) (2 ^ n) 0 + x) tail ∙ rest_with n k

pub code_agree : (s t : Bits) (b n : ℕ) → ((v : ℕ) → b ≤ v → v < b + n → s v ≡ t v) → code_from s b n ≡ code_from t b n
code_agree s t b zero same = refl
code_agree s t b (suc n) same =
    ap (λ x. cond x (2 ^ n) 0 + code_from s (suc b) n) (same b (omega arith) (omega arith))
    ∙ ap (λ x. cond (t b) (2 ^ n) 0 + x) (code_agree s t (suc b) n (λ v le lt. same v (omega arith) (omega arith)))

-- ---- values of codes

pub value_Has : (places : List Place) (k : ℕ) → 0 < length places → Has places (value_of_code places k)
value_Has [] k lt = absurd (omega arith)
value_Has (p ∷ []) k lt = first
value_Has (p ∷ q ∷ places) zero lt = first
value_Has (p ∷ q ∷ places) (suc k) lt = later (value_Has (q ∷ places) k (omega arith))

pub Has_value : (places : List Place) (p : Place) → Has places p → (k : ℕ) × (k < length places) × (value_of_code places k ≡ p)
Has_value [] p h = elim h [ ]
Has_value (x ∷ []) _ first = (0, omega arith, refl)
Has_value (x ∷ y ∷ places) _ first = (0, omega arith, refl)
Has_value (x ∷ []) p (later h) = elim h [ ]
Has_value (x ∷ y ∷ places) p (later h) = let r = Has_value (y ∷ places) p h in let lt = r.1 in (suc r.0, omega arith, r.2)
