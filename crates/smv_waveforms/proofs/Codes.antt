-- The code of an element, digit by digit.
use Rattle.std.proofs.Common.{◌≡◌, ◌≢◌, ◌∙◌, ◌+◌, ◌-◌, ◌/◌, ◌%◌, ◌<◌, ℕ, zero, suc, List, [], ◌∷◌, ◌++◌, ap, append_assoc, arith, refl, sym}
use Rattle.std.specs.Prelude.{◌==◌, if◌then◌else◌, Bool}
use Rattle.std.proofs.lemmas.Bool.{eq-eqb, ne_eqb}
use Rattle.smv_waveforms.specs.Values.{code_digits}

pub code_step : (places number : ℕ) → 0 < places → code_digits places number ≡ (33 + number % 94) ∷ (if number / 94 == 0 then [] else code_digits (places - 1) (number / 94))
code_step zero number some = absurd (omega arith)
code_step (suc places) number some = let one_less : suc places - 1 ≡ places = omega arith in rw one_less refl

-- one digit more is written, and others are left
pub code_next : (places rest : ℕ) (out more whole : List ℕ) → 0 < places → rest / 94 ≢ 0 → more ≡ out ++ (33 + rest % 94) ∷ [] → out ++ code_digits places rest ≡ whole → more ++ code_digits (places - 1) (rest / 94) ≡ whole
code_next places rest out more whole some left grown same =
    let others = code_digits (places - 1) (rest / 94) in
    let digits : code_digits places rest ≡ (33 + rest % 94) ∷ others = code_step places rest some ∙ ap (λ (t : Bool). (33 + rest % 94) ∷ (if t then [] else others)) (ne_eqb (rest / 94) 0 left) in
    ap (λ (front : List ℕ). front ++ others) grown ∙ append_assoc out ((33 + rest % 94) ∷ []) others ∙ ap (λ (back : List ℕ). out ++ back) (sym digits) ∙ same

-- the last digit is written
pub code_last : (places rest : ℕ) → 0 < places → rest / 94 ≡ 0 → code_digits places rest ≡ (33 + rest % 94) ∷ []
code_last places rest some none = code_step places rest some ∙ ap (λ (t : Bool). (33 + rest % 94) ∷ (if t then [] else code_digits (places - 1) (rest / 94))) (eq-eqb (rest / 94) 0 none)
