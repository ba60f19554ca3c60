-- The readers of the next level.
use Rattle.std.proofs.Common.{◌≡◌, ◌<◌, ◌-◌, ℕ, zero, suc, refl, arith}
use Rattle.law_formula_grammar.specs.Readers.{read_formula, formula_reader, read_item, item_reader, read_body, body_reader}

pub next_formula : (n : ℕ) → 0 < n → formula_reader n ≡ read_formula (n - 1) (formula_reader (n - 1))
next_formula zero l = absurd (omega arith)
next_formula (suc n) l = let e : n ≡ suc n - 1 = omega arith in rw (← e) refl

pub next_item : (n : ℕ) → 0 < n → item_reader n ≡ read_item (n - 1) (item_reader (n - 1))
next_item zero l = absurd (omega arith)
next_item (suc n) l = let e : n ≡ suc n - 1 = omega arith in rw (← e) refl

pub next_body : (n : ℕ) → 0 < n → body_reader n ≡ read_body (n - 1) (item_reader (n - 1))
next_body zero l = absurd (omega arith)
next_body (suc n) l = let e : n ≡ suc n - 1 = omega arith in rw (← e) refl
