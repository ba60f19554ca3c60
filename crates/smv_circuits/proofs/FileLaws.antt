-- The bytes of a file, piece by piece.
use Rattle.std.proofs.Common.{◌≡◌, ◌∙◌, ℕ, zero, suc, ◌+◌, ◌-◌, ◌/◌, ◌%◌, ◌<◌, ◌≤◌, true, false, List, [], ◌∷◌, ◌++◌, nat_lt, refl, sym, ap, arith, append_assoc, append-nil}
use Rattle.std.proofs.lemmas.Bool.Decides.{nat_tests}
use Rattle.std.specs.List.{flat_map}
use Rattle.smv_core.specs.Values.{numbers_from}
use Rattle.smv_circuits.specs.Files.{groups}

-- ---- groups of seven bits

small : (n : ℕ) → n < 128 → nat_lt n 128 ≡ true
small n lt = grind (arith, nat_tests, lt)

large : (n : ℕ) → 128 ≤ n → nat_lt n 128 ≡ false
large n not_less = grind (arith, nat_tests, not_less)

pub last_group : (more n : ℕ) → more ≡ 0 → groups more n ≡ n % 128 ∷ []
last_group more n e = ap (λ (k : ℕ). groups k n) e

pub small_group : (more n : ℕ) → n < 128 → groups more n ≡ n % 128 ∷ []
small_group zero n lt = refl
small_group (suc more) n lt = rw (small n lt) refl

pub more_groups : (more n : ℕ) → (more ≡ 0 → ⊥) → 128 ≤ n → groups more n ≡ (n % 128 + 128) ∷ groups (more - 1) (n / 128)
more_groups zero n some not_less = absurd (some refl)
more_groups (suc more) n some not_less = let e : suc more - 1 ≡ more = omega arith in rw (large n not_less) (ap (λ (k : ℕ). (n % 128 + 128) ∷ groups k (n / 128)) (sym e))

-- ---- names

more_numbers : (line : ℕ → List ℕ) (first n : ℕ) → flat_map line (numbers_from first (suc n)) ≡ flat_map line (numbers_from first n) ++ line (first + n)
more_numbers line first zero = let e : first ≡ first + 0 = omega arith in append-nil (line first) ∙ ap line e
more_numbers line first (suc n) =
    let e : first + 1 + n ≡ first + suc n = omega arith in
    ap (λ (xs : List ℕ). line first ++ xs) (more_numbers line (first + 1) n ∙ ap (λ (k : ℕ). flat_map line (numbers_from (first + 1) n) ++ line k) e)
    ∙ sym (append_assoc (line first) (flat_map line (numbers_from (first + 1) n)) (line (first + suc n)))

pub name_more : (line : ℕ → List ℕ) (bit : ℕ) (before out more : List ℕ) → out ≡ before ++ flat_map line (numbers_from 0 bit) → more ≡ out ++ line bit → more ≡ before ++ flat_map line (numbers_from 0 (bit + 1))
name_more line bit before out more e f =
    let zero_first : 0 + bit ≡ bit = omega arith in
    let next : suc bit ≡ bit + 1 = omega arith in
    f ∙ (ap (λ (xs : List ℕ). xs ++ line bit) e
    ∙ (append_assoc before (flat_map line (numbers_from 0 bit)) (line bit)
    ∙ ap (λ (xs : List ℕ). before ++ xs) (sym (sym (ap (λ (n : ℕ). flat_map line (numbers_from 0 n)) next) ∙ (more_numbers line 0 bit ∙ ap (λ (k : ℕ). flat_map line (numbers_from 0 bit) ++ line k) zero_first)))))
