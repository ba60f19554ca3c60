-- The last byte of a piece.
use Rattle.std.proofs.Common.{◌≡◌, ◌∙◌, ◌-◌, ◌<◌, ℕ, suc, Bool, true, false, List, [], ◌∷◌, ap, arith, get_or, length, refl, take}
use Rattle.std.specs.Prelude.{Some, None, option_map, ◌==◌, if◌then◌else◌}
use Rattle.smv_read_report.specs.Pieces.{without_last}

behind : (b : ℕ) (t : Bool) (bytes : List ℕ) → option_map (λ front. b ∷ front) (if t then Some bytes else None) ≡ (if t then Some (b ∷ bytes) else None)
behind b true bytes = refl
behind b false bytes = refl

pub last_is : (at : ℕ) (bytes : List ℕ) → 0 < length bytes → without_last at bytes ≡ (if get_or bytes (length bytes - 1) 0 == at then Some (take (length bytes - 1) bytes) else None)
last_is at [] some = absurd (omega arith)
last_is at (b ∷ []) some = refl
last_is at (b ∷ other ∷ bytes) some =
    let long : length (b ∷ other ∷ bytes) - 1 ≡ suc (length bytes) = omega arith in
    let short : length (other ∷ bytes) - 1 ≡ length bytes = omega arith in
    rw long (ap (option_map (λ front. b ∷ front)) (rw short at (last_is at (other ∷ bytes) (omega arith))) ∙ behind b (get_or (other ∷ bytes) (length bytes) 0 == at) (take (length bytes) (other ∷ bytes)))
