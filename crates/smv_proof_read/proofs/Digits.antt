-- The value of digits, one after another.
use Rattle.std.proofs.Common.{◌≡◌, ◌∙◌, ℕ, ◌+◌, ◌-◌, ◌*◌, ◌<◌, ◌≤◌, List, [], ◌∷◌, length, get_or, drop, Option, Some, None, Bool, true, false, ◌&&◌, if◌then◌else◌, nat_le, decimal, refl, ap, arith, bytes_eq}
use Rattle.law_lists.proofs.Numbers.{nat_le-true}
use Rattle.law_lists.proofs.Places.{drop_read_one, get_or-own}
use Rattle.smv_proof.specs.Documents.{most}
use Rattle.smv_proof.specs.Readings.{value_from, in_range, number_of}
use Rattle.smv_proof_read.specs.Numbers.{at_most}

-- a value above the greatest number stays above it
pub above_most : (n : ℕ) (ds : List ℕ) → most < n → at_most (value_from n ds) ≡ None
above_most n [] lt = let e : nat_le n most ≡ false = grind (arith, lt) in rw e refl
above_most n (d ∷ ds) lt = by_test (nat_le 48 d && nat_le d 57) (above_most (n * 10 + (d - 48)) ds (omega (arith, lt)))
  where
    by_test : (t : Bool) → at_most (value_from (n * 10 + (d - 48)) ds) ≡ None → at_most (if t then value_from (n * 10 + (d - 48)) ds else None) ≡ None
    by_test true e = e
    by_test false e = refl

-- no number, where there is no value in range
pub number_none : (piece : List ℕ) → at_most (value_from 0 piece) ≡ None → number_of piece ≡ None
number_none piece e = by_value (value_from 0 piece) e
  where
    by_test : (n : ℕ) (t : Bool) (u : Bool) → (if t then Some n else None) ≡ None → (if (t && u) then Some n else None) ≡ None
    by_test n true u e = absurd (cc (e))
    by_test n false u e = refl

    by_value : (o : Option ℕ) → at_most o ≡ None → in_range piece o ≡ None
    by_value None e = refl
    by_value (Some n) e = by_test n (nat_le n most) (bytes_eq (decimal n) piece) e

-- and otherwise it is the number where it is spelled so
pub number_some : (piece : List ℕ) (n : ℕ) → at_most (value_from 0 piece) ≡ Some n → number_of piece ≡ (if bytes_eq (decimal n) piece then Some n else None)
number_some piece n e = by_value (value_from 0 piece) e
  where
    by_test : (m : ℕ) (t : Bool) → nat_le m most ≡ t → (if t then Some m else None) ≡ Some n → (if (nat_le m most && bytes_eq (decimal m) piece) then Some m else None) ≡ (if bytes_eq (decimal n) piece then Some n else None)
    by_test m true is e = let same : m ≡ n = cc (e) in rw is (ap (λ (k : ℕ). if bytes_eq (decimal k) piece then Some k else None) same)
    by_test m false is e = absurd (cc (e))

    by_value : (o : Option ℕ) → at_most o ≡ Some n → in_range piece o ≡ (if bytes_eq (decimal n) piece then Some n else None)
    by_value None e = absurd (cc (e))
    by_value (Some m) e = by_test m (nat_le m most) refl e

-- one digit more, which leads past the greatest number
pub value_past : (n i : ℕ) (piece : List ℕ) → i < length piece → 48 ≤ get_or piece i 0 → get_or piece i 0 ≤ 57 → most < n * 10 + (get_or piece i 0 - 48) → at_most (value_from n (drop i piece)) ≡ None
value_past n i piece lt low high above =
    ap (λ (ds : List ℕ). at_most (value_from n ds)) (drop_read_one piece i (get_or piece i 0) lt (get_or-own piece i 0 lt))
    ∙ rw (nat_le-true 48 (get_or piece i 0) low, nat_le-true (get_or piece i 0) 57 high) (above_most (n * 10 + (get_or piece i 0 - 48)) (drop (i + 1) piece) above)
