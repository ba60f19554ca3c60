-- Codes, bit by bit.
use Rattle.std.proofs.Common.{◌≡◌, ℕ, zero, suc, ◌+◌, ◌*◌, ◌^◌, ◌<◌, ◌≤◌, Bool, true, false, cond, refl, sym, ap, subst, ◌∙◌, arith}
use Rattle.law_lists.proofs.Numbers.{bit_before}
use Rattle.law_obligations.specs.Codes.{bits_for, code_from}
use Rattle.law_obligations.proofs.Codes.{bits_are}

one_more : (x y : Bool) (p a b : ℕ) → a ≡ 2 * b + cond y 1 0 → cond x (2 * p) 0 + a ≡ 2 * (cond x p 0 + b) + cond y 1 0
one_more true y p a b e = omega arith
one_more false y p a b e = omega arith

twice : (n : ℕ) → 2 ^ suc n ≡ 2 * 2 ^ n
twice n = grind arith

-- the code of one bit more
pub code_more : (s : ℕ → Bool) (b n : ℕ) → code_from s b (suc n) ≡ 2 * code_from s b n + cond (s (b + n)) 1 0
code_more s b zero =
    let same : s b ≡ s (b + 0) = ap s (omega arith) in
    ap (λ x. cond x (2 ^ 0) 0 + 0) same ∙ last (s (b + 0))
  where
    last : (x : Bool) → cond x (2 ^ 0) 0 + 0 ≡ 2 * 0 + cond x 1 0
    last true = refl
    last false = refl
code_more s b (suc n) =
    let same : suc b + n ≡ b + suc n = omega arith in
    let more : code_from s (suc b) (suc n) ≡ 2 * code_from s (suc b) n + cond (s (b + suc n)) 1 0 = code_more s (suc b) n ∙ ap (λ (v : ℕ). 2 * code_from s (suc b) n + cond (s v) 1 0) same in
    ap (λ p. cond (s b) p 0 + code_from s (suc b) (suc n)) (twice n) ∙ one_more (s b) (s (b + suc n)) (2 ^ n) (code_from s (suc b) (suc n)) (code_from s (suc b) n) more

pub code_small : (s : ℕ → Bool) (b n : ℕ) → code_from s b n < 2 ^ n
code_small s b zero = grind arith
code_small s b (suc n) = subst (λ (m : ℕ). code_from s b (suc n) < m) (sym (twice n)) (bit_before (s b) (2 ^ n) (code_from s (suc b) n) (code_small s (suc b) n))

pow_some : (m : ℕ) → 0 < 2 ^ m
pow_some zero = grind arith
pow_some (suc m) = grind (arith, pow_some m)

pow_grows : (b r : ℕ) → b ≤ r → 2 ^ b ≤ 2 ^ r
pow_grows zero r le = pow_some r
pow_grows (suc b) zero le = absurd (omega (arith, le))
pow_grows (suc b) (suc r) le = grind (arith, pow_grows b r (omega (arith, le)))

-- the code of fewer than 32 bits has room for one more in 64
pub code_fits : (s : ℕ → Bool) (b n : ℕ) → n < 32 → code_from s b n < 2 ^ 31
code_fits s b n lt = let small = code_small s b n in let grows = pow_grows n 31 (omega (arith, lt)) in omega (arith, small, grows)

-- the same bits spell the same code
pub code_same : (s t : ℕ → Bool) (b c n : ℕ) → ((i : ℕ) → i < n → s (b + i) ≡ t (c + i)) → code_from s b n ≡ code_from t c n
code_same s t b c zero same = refl
code_same s t b c (suc n) same =
    let head : s b ≡ t c = ap s (omega arith) ∙ same 0 (omega arith) ∙ ap t (omega arith) in
    ap (λ x. cond x (2 ^ n) 0 + code_from s (suc b) n) head
    ∙ ap (λ k. cond (t c) (2 ^ n) 0 + k) (code_same s t (suc b) (suc c) n (λ i lt. ap s (omega arith) ∙ same (suc i) (omega arith) ∙ ap t (omega arith)))

-- a number of 32 bits has at most so many bits for its values
pub bits_short : (n : ℕ) → n < 2 ^ 32 → bits_for n ≤ 32
bits_short n lt = (bits_are n).least 32 (omega arith) (omega (arith, lt))
