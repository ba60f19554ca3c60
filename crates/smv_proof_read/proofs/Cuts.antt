-- A cut, found byte by byte.
use Rattle.std.proofs.Common.{◌≡◌, ◌∙◌, ℕ, zero, suc, ◌+◌, ◌-◌, ◌<◌, ◌≤◌, List, [], ◌∷◌, ◌++◌, length, get_or, take, drop, Some, None, true, false, nat_eq, refl, sym, ap, subst, arith}
use Rattle.std.proofs.lemmas.List.{take-append-drop}
use Rattle.law_lists.proofs.Numbers.{nat_eq-is}
use Rattle.law_lists.proofs.Places.{drop_read_one, get_or-own, take_read, take_past}
use Rattle.smv_proof.specs.Readings.{cut}
use Rattle.smv_proof.proofs.Pieces.{lacks, lacks_more, cut_front, cut_none}

-- no byte before place i is `at`
abbrev pub LacksBefore : ℕ → List ℕ → ℕ → Type 0
LacksBefore at bytes i = lacks at (take i bytes) ≡ true

pub lacks_on : (at : ℕ) (bytes : List ℕ) (i : ℕ) → i < length bytes → nat_eq (get_or bytes i 0) at ≡ false → LacksBefore at bytes i → LacksBefore at bytes (i + 1)
lacks_on at bytes i lt other lacked =
    subst (λ (xs : List ℕ). lacks at xs ≡ true) (sym (take_read bytes i (get_or bytes i 0) lt (get_or-own bytes i 0 lt)))
    (lacks_more at (take i bytes) (get_or bytes i 0 ∷ []) lacked (rw other refl))

pub cut_here : (at : ℕ) (bytes : List ℕ) (i : ℕ) → i < length bytes → nat_eq (get_or bytes i 0) at ≡ true → LacksBefore at bytes i → cut at bytes ≡ Some (take i bytes, drop (i + 1) bytes)
cut_here at bytes i lt here lacked =
    let whole : bytes ≡ take i bytes ++ at ∷ drop (i + 1) bytes = sym (take-append-drop i bytes) ∙ ap (λ (xs : List ℕ). take i bytes ++ xs) (drop_read_one bytes i (get_or bytes i 0) lt (get_or-own bytes i 0 lt) ∙ ap (λ (b : ℕ). b ∷ drop (i + 1) bytes) (nat_eq-is (get_or bytes i 0) at here)) in
    ap (cut at) whole ∙ cut_front at (take i bytes) (drop (i + 1) bytes) lacked

pub cut_nowhere : (at : ℕ) (bytes : List ℕ) (i : ℕ) → length bytes ≤ i → LacksBefore at bytes i → cut at bytes ≡ None
cut_nowhere at bytes i le lacked = cut_none at bytes (subst (λ (xs : List ℕ). lacks at xs ≡ true) (take_past bytes i le) lacked)

length_rest : (xs : List ℕ) (k : ℕ) → length (drop k xs) ≤ length xs - k
length_rest xs zero = omega arith
length_rest [] (suc k) = omega arith
length_rest (x ∷ xs) (suc k) = let le = length_rest xs k in omega (arith, le)

-- as the two parts are read
pub cut_found : (at : ℕ) (bytes : List ℕ) (i : ℕ) → i < length bytes → nat_eq (get_or bytes i 0) at ≡ true → LacksBefore at bytes i → Some (take i bytes, take (length bytes - (i + 1)) (drop (i + 1) bytes)) ≡ cut at bytes
cut_found at bytes i lt here lacked = (λ j. Some (take i bytes, take_past (drop (i + 1) bytes) (length bytes - (i + 1)) (length_rest bytes (i + 1)) j)) ∙ sym (cut_here at bytes i lt here lacked)
