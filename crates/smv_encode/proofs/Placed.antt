-- The number that the bits of a case spell, by their places.
use Rattle.std.proofs.Common.{◌≡◌, ℕ, suc, ◌+◌, ◌^◌, List, [], ◌∷◌, length, Bool, cond, refl, sym, ap, ◌∙◌}
use Rattle.law_obligations.specs.Bits.{Bits}
use Rattle.law_obligations.specs.Codes.{code_from}
use Rattle.law_arrangements.specs.Arrangements.{at_place, spread}
use Rattle.bdd_codes.specs.Codes.{bits_at, code_at}
use Rattle.smv_orders.specs.Places.{ArePlaces}

-- the number at the places of some bits is their code
pub code_placed : (order : List ℕ) (next : Bool) (a : ℕ → Bool) (bit : ℕ) (places : List ℕ) → ArePlaces order bit places → code_at next places a ≡ code_from (spread order (bits_at next a)) bit (length places)
unfolding code_at
code_placed order next a bit [] placed = refl
code_placed order next a bit (p ∷ places) placed =
    let s : Bits = bits_at next a in
    ap (λ (n : ℕ). cond (s p) (2 ^ length places) 0 + n) (code_placed order next a (suc bit) places placed.1)
    ∙ ap (λ (b : Bool). cond b (2 ^ length places) 0 + code_from (spread order s) (suc bit) (length places)) (sym (ap (at_place s) placed.0))
