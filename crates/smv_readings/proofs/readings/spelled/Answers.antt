use Rattle.std.proofs.Common.{◌≡◌, ℕ, suc, ◌+◌, ◌*◌, ◌≤◌, Bool, true, false, cond, get_or, refl, sym, ◌∙◌, ap, arith}
use mir.Val.{bool_byte}
use Rattle.law_obligations.specs.Codes.{code_from}
use Rattle.smv_readings.specs.States.{bits_in}
use Rattle.smv_readings.proofs.Spelling.{code_fits, code_more}
use Rattle.smv_readings.proofs.readings.spelled.Goals as goal

byte_is : (x : Bool) → bool_byte x ≡ cond x 1 0
byte_is true = refl
byte_is false = refl

byte_small : (x : Bool) → bool_byte x ≤ 1
byte_small true = omega arith
byte_small false = omega arith

pub overflow_mul-code : goal.overflow_mul-code
overflow_mul-code c = let small = code_fits (bits_in c.args.bits.now) 0 c.loop-bit.bit-index (omega arith) in omega (arith, small)

pub overflow_add-code : goal.overflow_add-code
overflow_add-code c =
    let small = code_fits (bits_in c.args.bits.now) 0 c.loop-bit.bit-index (omega arith) in
    let byte = byte_small (get_or c.args.bits.now c.loop-bit.bit-index false) in
    omega (arith, small, byte)

pub loop-bit-preserved : goal.loop-bit-preserved
loop-bit-preserved c =
    let s : ℕ → Bool = bits_in c.args.bits.now in
    let i : ℕ = c.loop-bit.bit-index in
    let next : suc i ≡ i + 1 = omega arith in
    let here : 0 + i ≡ i = omega arith in
    let bit : c.from.result ≡ cond (s (0 + i)) 1 0 = c.from.ensures ∙ byte_is (get_or c.args.bits.now i false) ∙ ap (λ (v : ℕ). cond (s v) 1 0) (sym here) in
    ap (λ (n : ℕ). 2 * n + c.from.result) c.loop-bit.invariant ∙ ap (λ (n : ℕ). 2 * code_from s 0 i + n) bit ∙ sym (code_more s 0 i) ∙ ap (λ (n : ℕ). code_from s 0 n) next
