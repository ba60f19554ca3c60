-- How often a `for` runs its body.
use Rattle.std.proofs.Common.{◌≡◌, ℕ, zero, suc, ◌+◌, ◌-◌, ◌*◌, ◌/◌, ◌<◌, ◌≤◌, Bool, true, false, cond, ◌||◌, ◌&&◌, ◌∷◌, map, length, refl, ap, sym, ◌∙◌, arith}
use Rattle.std.specs.Prelude.{nat_lt, nat_eq, min, filter}
use Rattle.std.proofs.lemmas.Bool.Decides.{nat_tests}
use Rattle.std.proofs.Math.Nat.{le-div_iff_mul-le}
use Rattle.smv_core.specs.Values.{numbers_from}
use Rattle.smv_core.specs.Walk.{steps_of}

-- of numbers in a row those below a bound pass
passing : (p : ℕ → Bool) (f : ℕ → ℕ) (bound m first : ℕ) → ((k : ℕ) → k < first + m → p (f k) ≡ nat_lt k bound) → length (filter p (map f (numbers_from first m))) ≡ min m (bound - first)
passing p f bound zero first test = omega arith
passing p f bound (suc m) first test =
    by (nat_lt first bound) refl (test first (omega arith)) (passing p f bound m (first + 1) (λ k h. test k (omega arith)))
  where
    by : (b : Bool) → nat_lt first bound ≡ b → p (f first) ≡ nat_lt first bound → length (filter p (map f (numbers_from (first + 1) m))) ≡ min m (bound - (first + 1))
        → length (cond (p (f first)) (f first ∷ filter p (map f (numbers_from (first + 1) m))) (filter p (map f (numbers_from (first + 1) m)))) ≡ min (suc m) (bound - first)
    by true e is rest =
        let below : first < bound = grind (arith, nat_tests) in
        ap (λ b. length (cond b (f first ∷ filter p (map f (numbers_from (first + 1) m))) (filter p (map f (numbers_from (first + 1) m))))) (is ∙ e) ∙ (omega (arith, rest, below))
    by false e is rest =
        let above : bound ≤ first = grind (arith, nat_tests) in
        ap (λ b. length (cond b (f first ∷ filter p (map f (numbers_from (first + 1) m))) (filter p (map f (numbers_from (first + 1) m))))) (is ∙ e) ∙ (omega (arith, rest, above))

-- the first number at which a `for` ends
abbrev pub end_of : ℕ → Bool → ℕ
end_of to closed = cond closed (to + 1) to

meets : (to : ℕ) (closed : Bool) (n : ℕ) → nat_lt n to || (closed && nat_eq n to) ≡ nat_lt n (end_of to closed)
meets to true n = grind (arith, nat_tests)
meets to false n = grind (arith, nat_tests)

steps : (from to step bound : ℕ) (closed : Bool) → ((k : ℕ) → k < to + 1 → nat_lt (from + k * step) (end_of to closed) ≡ nat_lt k bound) → length (steps_of from to closed step) ≡ min (to + 1) bound
steps from to step bound closed test =
    passing (λ n. nat_lt n to || (closed && nat_eq n to)) (λ k. from + k * step) bound (to + 1) 0 (λ k h. meets to closed (from + k * step) ∙ test k (omega arith)) ∙ (omega arith)

pub lt_same : (a b c d : ℕ) → (a < b → c < d) → (c < d → a < b) → nat_lt a b ≡ nat_lt c d
lt_same a b c d there back = by (nat_lt a b) (nat_lt c d) refl refl
  where
    by : (s t : Bool) → nat_lt a b ≡ s → nat_lt c d ≡ t → nat_lt a b ≡ nat_lt c d
    by true true e f = e ∙ sym f
    by false false e f = e ∙ sym f
    by true false e f =
        let below : a < b = grind (arith, nat_tests) in
        let above : d ≤ c = grind (arith, nat_tests) in
        absurd (omega (arith, there below))
    by false true e f =
        let below : c < d = grind (arith, nat_tests) in
        let above : b ≤ a = grind (arith, nat_tests) in
        absurd (omega (arith, back below))

pub no_steps : (from to step : ℕ) (closed : Bool) → end_of to closed ≤ from → 0 ≡ length (steps_of from to closed step)
no_steps from to step closed h = sym (steps from to step 0 closed (λ k b. none k) ∙ (omega arith))
  where
    none : (k : ℕ) → nat_lt (from + k * step) (end_of to closed) ≡ nat_lt k 0
    none k = grind (arith, nat_tests)

pub all_steps : (from to step : ℕ) (closed : Bool) → from < end_of to closed → step ≡ 0 → to + 1 ≡ length (steps_of from to closed step)
all_steps from to step closed h is = sym (steps from to step (to + 1) closed (λ k b. all k b) ∙ (omega arith))
  where
    all : (k : ℕ) → k < to + 1 → nat_lt (from + k * step) (end_of to closed) ≡ nat_lt k (to + 1)
    all k b = let z : k * step ≡ 0 = ap (λ s. k * s) is ∙ (omega arith) in grind (arith, nat_tests)

pub some_steps : (from to step : ℕ) (closed : Bool) → from < end_of to closed → 0 < step → min ((end_of to closed - from - 1) / step + 1) (to + 1) ≡ length (steps_of from to closed step)
some_steps from to step closed h positive = sym (steps from to step ((end_of to closed - from - 1) / step + 1) closed (λ k b. some k) ∙ (omega arith))
  where
    some : (k : ℕ) → nat_lt (from + k * step) (end_of to closed) ≡ nat_lt k ((end_of to closed - from - 1) / step + 1)
    some k =
        let iff = le-div_iff_mul-le {k = step} {x = k} {y = end_of to closed - from - 1} positive in
        lt_same (from + k * step) (end_of to closed) k ((end_of to closed - from - 1) / step + 1)
        (λ below. let room : k * step ≤ end_of to closed - from - 1 = omega arith in omega (arith, iff.1 room))
        (λ below. let few : k ≤ (end_of to closed - from - 1) / step = omega arith in omega (arith, iff.0 few))

pub ruleset turns = (no_steps, all_steps, some_steps)
