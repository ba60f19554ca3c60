-- Digits in base 94, the least first.
use Rattle.std.proofs.Common.{◌≡◌, ◌≢◌, ◌∙◌, ◌+◌, ◌/◌, ◌%◌, ◌^◌, ◌<◌, ◌≤◌, ℕ, zero, suc, All, Bool, true, false, List, [], ◌∷◌, arith, refl, sym}
use Rattle.std.specs.Prelude.{◌==◌, if◌then◌else◌}
use Rattle.std.proofs.lemmas.List.Elements.{All-cons, All-nil}
use Rattle.std.proofs.lemmas.Bool.{eqb-false, eqb-true}
use Rattle.smv_waveforms.specs.Values.{code_digits}

-- the digits behind the first
abbrev rest : ℕ → ℕ → Bool → List ℕ
rest places n ends = if ends then [] else code_digits places (n / 94)

same_first : (a b : ℕ) (xs ys : List ℕ) → (33 + a) ∷ xs ≡ (33 + b) ∷ ys → a ≡ b
same_first a b xs ys same = let first : 33 + a ≡ 33 + b = cc in omega arith

same_rest : (a b : ℕ) (xs ys : List ℕ) → (33 + a) ∷ xs ≡ (33 + b) ∷ ys → xs ≡ ys
same_rest a b xs ys same = cc

below : (places n : ℕ) → n < 94 ^ suc places → n / 94 < 94 ^ places
below places n small = omega arith

no_digits : (places n : ℕ) → n < 94 ^ places → n ≢ 0 → [] ≡ code_digits places n → ⊥
no_digits zero n small some same = some (omega arith)
no_digits (suc places) n small some same = cc

one_number : (m n : ℕ) → m / 94 ≡ n / 94 → m % 94 ≡ n % 94 → m ≡ n
one_number m n same_quotient same_digit = omega arith

quotients : (places m n : ℕ) (s t : Bool) → m < 94 ^ suc places → n < 94 ^ suc places → (m / 94 == 0) ≡ s → (n / 94 == 0) ≡ t → rest places m s ≡ rest places n t →
    (code_digits places (m / 94) ≡ code_digits places (n / 94) → m / 94 ≡ n / 94) → m / 94 ≡ n / 94
quotients places m n true true small few first second more same = eqb-true (m / 94) 0 first ∙ sym (eqb-true (n / 94) 0 second)
quotients places m n true false small few first second more same = absurd (no_digits places (n / 94) (below places n few) (eqb-false (n / 94) 0 second) more)
quotients places m n false true small few first second more same = absurd (no_digits places (m / 94) (below places m small) (eqb-false (m / 94) 0 first) (sym more))
quotients places m n false false small few first second more same = same more

pub one : (places m n : ℕ) → m < 94 ^ places → n < 94 ^ places → code_digits places m ≡ code_digits places n → m ≡ n
one zero m n small few same = omega arith
one (suc places) m n small few same =
    let digit : m % 94 ≡ n % 94 = same_first (m % 94) (n % 94) (rest places m (m / 94 == 0)) (rest places n (n / 94 == 0)) same in
    let others : rest places m (m / 94 == 0) ≡ rest places n (n / 94 == 0) = same_rest (m % 94) (n % 94) (rest places m (m / 94 == 0)) (rest places n (n / 94 == 0)) same in
    one_number m n (quotients places m n (m / 94 == 0) (n / 94 == 0) small few refl refl others (one places (m / 94) (n / 94) (below places m small) (below places n few))) digit

abbrev pub IsPrintable : ℕ → Type 0
IsPrintable b = (33 ≤ b) × (b ≤ 126)

printed : (places n : ℕ) (t : Bool) → All IsPrintable (code_digits places (n / 94)) → All IsPrintable (rest places n t)
printed places n true later = All-nil IsPrintable
printed places n false later = later

pub printable : (places n : ℕ) → All IsPrintable (code_digits places n)
printable zero n = All-nil IsPrintable
printable (suc places) n =
    let byte : IsPrintable (33 + n % 94) = (omega arith, omega arith) in
    All-cons IsPrintable (33 + n % 94) (rest places n (n / 94 == 0)) byte (printed places n (n / 94 == 0) (printable places (n / 94)))
