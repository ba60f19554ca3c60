-- The turns of a `for`, one after the other.
use Rattle.std.proofs.Common.{◌≡◌, ℕ, zero, suc, ◌-◌, ◌+◌, ◌*◌, ◌<◌, Bool, true, false, cond, List, [], ◌∷◌, ◌++◌, map, filter, refl, ap, sym, ◌∙◌, arith, append_assoc}
use Rattle.std.proofs.lemmas.Grind.{common_steps}
use Rattle.std.proofs.lemmas.List.{append-nil}
use Rattle.smv_core.specs.Values.{numbers_from}
use Rattle.smv_core.specs.Walk.{steps_of}
use Rattle.smv_flatten_statements.specs.Turns.{is_turn, turns_from}

next : (n k step : ℕ) → n + (k + 1) * step ≡ n + step + k * step
next n k step = grind arith

shifted : (n step k count : ℕ) → map (λ j. n + j * step) (numbers_from (k + 1) count) ≡ map (λ j. n + step + j * step) (numbers_from k count)
shifted n step k zero = refl
shifted n step k (suc count) = ap (λ m. m ∷ map (λ j. n + j * step) (numbers_from (k + 1 + 1) count)) (next n k step) ∙ ap (λ l. (n + step + k * step) ∷ l) (shifted n step (k + 1) count)

pub turns-start : (from to : ℕ) (closed : Bool) (step : ℕ) → steps_of from to closed step ≡ turns_from to closed step from (to + 1)
unfolding turns_from
turns-start from to closed step = refl

pub turns-none : (to : ℕ) (closed : Bool) (step n : ℕ) → turns_from to closed step n 0 ≡ []
unfolding turns_from
turns-none to closed step n = refl

by_first : (to : ℕ) (closed : Bool) (n m : ℕ) (l r : List ℕ) → n ≡ m → l ≡ r → filter (is_turn to closed) (n ∷ l) ≡ cond (is_turn to closed m) (m ∷ filter (is_turn to closed) r) (filter (is_turn to closed) r)
by_first to closed n m l r e f = ap (λ x. filter (is_turn to closed) (x ∷ l)) e ∙ ap (λ x. filter (is_turn to closed) (m ∷ x)) f

turns-suc : (to : ℕ) (closed : Bool) (step n count : ℕ) → turns_from to closed step n (suc count) ≡ cond (is_turn to closed n) (n ∷ turns_from to closed step (n + step) count) (turns_from to closed step (n + step) count)
unfolding turns_from
turns-suc to closed step n count = by_first to closed (n + 0 * step) n _ _ (omega arith) (shifted n step 0 count)

stays_over : (to : ℕ) (closed : Bool) (step n : ℕ) → is_turn to closed n ≡ false → is_turn to closed (n + step) ≡ false
stays_over to true step n is = grind (arith, common_steps)
stays_over to false step n is = grind (arith, common_steps)

-- behind the last turn is none
pub turns-end : (to : ℕ) (closed : Bool) (step n count : ℕ) → is_turn to closed n ≡ false → turns_from to closed step n count ≡ []
turns-end to closed step n zero is = turns-none to closed step n
turns-end to closed step n (suc count) is =
    turns-suc to closed step n count
    ∙ ap (λ b. cond b (n ∷ turns_from to closed step (n + step) count) (turns_from to closed step (n + step) count)) is
    ∙ turns-end to closed step (n + step) count (stays_over to closed step n is)

-- one turn more is done
pub turn-done : (to : ℕ) (closed : Bool) (step n left m rest : ℕ) (done after : List ℕ) → is_turn to closed n ≡ true → 0 < left → m ≡ n + step → rest ≡ left - 1 → after ≡ done ++ n ∷ []
    → after ++ turns_from to closed step m rest ≡ done ++ turns_from to closed step n left
turn-done to closed step n zero m rest done after is some e f g = absurd (omega arith)
turn-done to closed step n (suc count) m rest done after is some e f g =
    let h : rest ≡ count = omega arith in
    let next : turns_from to closed step m rest ≡ turns_from to closed step (n + step) count = ap (λ x. turns_from to closed step x rest) e ∙ ap (turns_from to closed step (n + step)) h in
    let all : turns_from to closed step n (suc count) ≡ n ∷ turns_from to closed step (n + step) count =
    turns-suc to closed step n count ∙ ap (λ b. cond b (n ∷ turns_from to closed step (n + step) count) (turns_from to closed step (n + step) count)) is in
    ap (λ l. l ++ turns_from to closed step m rest) g ∙ append_assoc done (n ∷ []) (turns_from to closed step m rest) ∙ ap (λ l. done ++ n ∷ l) next ∙ ap (λ l. done ++ l) (sym all)

-- all turns are done
pub turns-done : (to : ℕ) (closed : Bool) (step n left : ℕ) (done all : List ℕ) → turns_from to closed step n left ≡ [] → done ++ turns_from to closed step n left ≡ all → done ≡ all
turns-done to closed step n left done all none e = sym (append-nil done) ∙ ap (λ l. done ++ l) (sym none) ∙ e

pub ruleset starting = (turns-start)
