-- Pieces byte by byte, and cells three pieces at a time.
use Rattle.std.proofs.Common.{◌≡◌, ◌≢◌, ◌∙◌, ◌+◌, ◌<◌, ◌≤◌, ℕ, Bool, true, false, List, [], ◌∷◌, ◌++◌, add-one, ap, append-nil, append_assoc, arith, drop, drop-cons, eq-eqb, get_or, length, refl, sym}
use Rattle.std.specs.Prelude.{◌==◌, if◌then◌else◌}
use Rattle.std.proofs.lemmas.Bool.{ne_eqb}
use Rattle.smv_read_report.specs.Pieces.{led, pieces}
use Rattle.smv_read_report.specs.Lines.{before, cell_onto, cells_of, value_in}
use Rattle.smv_read_report.proofs.Led.{led_byte}

-- pieces are led by nothing
pub led_start : (at : ℕ) (bytes : List ℕ) → led [] (pieces at bytes) ≡ pieces at bytes
led_start at [] = refl
led_start at (b ∷ bytes) = by (b == at)
  where
    by : (t : Bool) → led [] (if t then [] ∷ pieces at bytes else led (b ∷ []) (pieces at bytes)) ≡ (if t then [] ∷ pieces at bytes else led (b ∷ []) (pieces at bytes))
    by true = refl
    by false = led_byte [] b (pieces at bytes)

-- three pieces make a cell
pub three : (rest : List (List ℕ)) → 3 ≤ length rest →
    cells_of rest ≡ cell_onto (get_or rest 0 []) (value_in (get_or rest 0 []) (get_or rest 1 []) (before (drop 3 rest) (get_or rest 2 []))) (cells_of (drop 3 rest))
three [] some = absurd (omega arith)
three (a ∷ []) some = absurd (omega arith)
three (a ∷ b ∷ []) some = absurd (omega arith)
three (a ∷ b ∷ c ∷ more) some = refl

parted : (at : ℕ) (bytes : List ℕ) (i : ℕ) → i < length bytes → get_or bytes i 0 ≡ at → pieces at (drop i bytes) ≡ [] ∷ pieces at (drop (i + 1) bytes)
parted at bytes i within same = rw (drop-cons bytes i 0 within) (rw (eq-eqb (get_or bytes i 0) at same) (rw add-one refl))

kept_on : (at : ℕ) (bytes : List ℕ) (i : ℕ) → i < length bytes → get_or bytes i 0 ≢ at → pieces at (drop i bytes) ≡ led (get_or bytes i 0 ∷ []) (pieces at (drop (i + 1) bytes))
kept_on at bytes i within other = rw (drop-cons bytes i 0 within) (rw (ne_eqb (get_or bytes i 0) at other) (rw add-one refl))

-- a byte that parts pieces ends the one before it
pub next_piece : (at : ℕ) (bytes : List ℕ) (i : ℕ) (found more : List (List ℕ)) (piece empty : List ℕ) → i < length bytes → found ++ led piece (pieces at (drop i bytes)) ≡ pieces at bytes →
    get_or bytes i 0 ≡ at → more ≡ found ++ piece ∷ [] → empty ≡ [] → more ++ led empty (pieces at (drop (i + 1) bytes)) ≡ pieces at bytes
next_piece at bytes i found more piece empty within same parts longer none =
    rw (longer, none, led_start at (drop (i + 1) bytes), append_assoc found (piece ∷ []) (pieces at (drop (i + 1) bytes)))
    (ap (λ (last : List ℕ). found ++ last ∷ pieces at (drop (i + 1) bytes)) (sym (append-nil piece)) ∙ ap (λ (rest : List (List ℕ)). found ++ led piece rest) (sym (parted at bytes i within parts)) ∙ same)

-- another byte belongs to it
pub next_byte : (at : ℕ) (bytes : List ℕ) (i : ℕ) (found more : List (List ℕ)) (piece longer : List ℕ) → i < length bytes → found ++ led piece (pieces at (drop i bytes)) ≡ pieces at bytes →
    get_or bytes i 0 ≢ at → more ≡ found → longer ≡ piece ++ get_or bytes i 0 ∷ [] → more ++ led longer (pieces at (drop (i + 1) bytes)) ≡ pieces at bytes
next_byte at bytes i found more piece longer within same other kept one =
    rw (kept, one)
    (ap (λ (rest : List (List ℕ)). found ++ rest) (sym (led_byte piece (get_or bytes i 0) (pieces at (drop (i + 1) bytes)))) ∙ ap (λ (rest : List (List ℕ)). found ++ led piece rest) (sym (kept_on at bytes i within other)) ∙ same)
