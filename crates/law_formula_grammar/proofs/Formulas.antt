-- The laws of formulas.
use Rattle.std.proofs.Common.{◌≡◌, ◌-◌, ◌<◌, ℕ, zero, suc, true, List, [], ◌∷◌, ◌++◌, Option, Some, None, inr, refl, subst, arith}
use Rattle.smv_core.specs.declared.token.Token.{Token}
use Rattle.smv_core.specs.Signs.{open_paren, close_paren, comma}
use Rattle.smv_core.specs.Signs as w
use Rattle.smv_core.specs.Notation.{Tokens, nothing, ◌>>=◌, ◌>>◌, ◌<|>◌, placed, token, opener}
use Rattle.smv_core.specs.Grammar as g
use Rattle.smv_core.specs.Grammar.{below}
use Rattle.law_grammar.specs.Parsing.{Parser, starts}
use Rattle.law_grammar.specs.Lawful.{Levels, Finishes, Lawful}
use Rattle.law_grammar.specs.Marks.{Mark, exactly, begins, stops_by}
use Rattle.law_grammar.specs.Readers.{noting, first_at}
use Rattle.law_grammar.specs.Expressions.{expr_marks, expr_readers}
use Rattle.law_grammar.proofs.Tokens.{same-lawful}
use Rattle.law_grammar.proofs.Forms.{Begins, begins-then, begins-either, begins-wider, token-begins, opener-begins, token-lawful, level, next, alternative, made, next-begun, ended}
use Rattle.law_grammar.proofs.Noted.{noted, noted-lawful}
use Rattle.law_grammar.proofs.Expressions.{At, after_expr, expr-begins, expr-lawful, expr-finishes, inner-laws}
use Rattle.law_grammar.proofs.Statements.{stmt-laws}
use Rattle.law_formulas.specs.Formulas as f
use Rattle.law_formulas.specs.Formulas.{Formula}
use Rattle.law_formula_grammar.specs.Grammar.{formula_below, formula_at}
use Rattle.law_formula_grammar.specs.Readers as p

abbrev formula_marks : List Mark
formula_marks = exactly w.word_X ∷ exactly w.word_if ∷ exactly w.word_W ∷ expr_marks

abbrev next_rule : Levels Formula
next_rule floor m = token w.word_X >>= λ at. opener floor m open_paren >> formula_below floor m >>= λ x. token close_paren >> nothing (f.next at x)

abbrev when_rule : Levels Formula
when_rule floor m = opener floor m w.word_if >> (below floor m).condition >>= λ c. formula_below floor m >>= λ x. nothing (f.when c x)

abbrev weak_rule : Levels Formula
weak_rule floor m = token w.word_W >> opener floor m open_paren >> (below floor m).expr >>= λ a. token comma >> (below floor m).expr >>= λ b. token close_paren >> nothing (f.weak a b)

abbrev now_rule : Levels Formula
now_rule floor m = At g.expr_rule floor m >>= λ e. nothing (f.now e)

weak-or-now-begins : Begins (exactly w.word_W ∷ expr_marks) (λ floor m. weak_rule floor m <|> now_rule floor m)
weak-or-now-begins = begins-either (begins-wider (exactly w.word_W ∷ []) _ refl (begins-then (token-begins w.word_W))) (begins-wider expr_marks _ refl (begins-then expr-begins))

when-or-begins : Begins (exactly w.word_if ∷ exactly w.word_W ∷ expr_marks) (λ floor m. when_rule floor m <|> weak_rule floor m <|> now_rule floor m)
when-or-begins = begins-either (begins-wider (exactly w.word_if ∷ []) _ refl (begins-then (opener-begins w.word_if))) (begins-wider (exactly w.word_W ∷ expr_marks) _ refl weak-or-now-begins)

formula-begins : Begins formula_marks formula_at
formula-begins = begins-either (begins-wider (exactly w.word_X ∷ []) _ refl (begins-then (token-begins w.word_X))) (begins-wider (exactly w.word_if ∷ exactly w.word_W ∷ expr_marks) _ refl when-or-begins)

abbrev FormulaLaw : ℕ → Parser Formula → Type 0
FormulaLaw n inner = Lawful (0 < n) formula_at (n - 1) inner (stops_by (λ x. after_expr))

module _ (C : Type 0) (n : ℕ) (inner : Parser Formula) (law : FormulaLaw n inner) where
  next-lawful : Lawful C next_rule n (p.read_next n inner) (stops_by (λ x. after_expr))
  unfolding p.read_next
  next-lawful = next (token-lawful w.word_X refl) (λ at. level open_paren refl (λ _. ended after_expr close_paren (f.next at) refl refl law))

  when-lawful : Lawful C when_rule n (p.read_when n inner) (stops_by (λ x. after_expr))
  unfolding p.read_when
  when-lawful = level w.word_if refl (λ _. next (stmt-laws n).condition (λ c. made after_expr (f.when c) law))

  weak-lawful : Lawful C weak_rule n (p.read_weak n inner) (stops_by (λ x. after_expr))
  unfolding p.read_weak
  weak-lawful = next (token-lawful w.word_W refl) (λ _. level open_paren refl (λ _. next-begun (exactly comma ∷ []) (λ a. after_expr) (inner-laws n).expr
      (λ a. next (token-lawful comma refl) (λ _. ended after_expr close_paren (f.weak a) refl refl (inner-laws n).expr)) (λ a. begins-then (token-begins comma)) (λ a. refl)))

  formula-lawful : Lawful C formula_at n (p.read_formula n inner) (stops_by (λ x. after_expr))
  unfolding p.read_formula
  formula-lawful = alternative (exactly w.word_X ∷ []) (exactly w.word_if ∷ exactly w.word_W ∷ expr_marks) next-lawful
      (alternative (exactly w.word_if ∷ []) (exactly w.word_W ∷ expr_marks) when-lawful
      (alternative (exactly w.word_W ∷ []) expr_marks weak-lawful (made after_expr f.now (expr-lawful C n (expr_readers n) (inner-laws n)))
      (begins-then (token-begins w.word_W)) (begins-then expr-begins) refl)
      (begins-then (opener-begins w.word_if)) weak-or-now-begins refl)
      (begins-then (token-begins w.word_X)) when-or-begins refl

-- ---- for each number of levels

formula-finishes : (place : ℕ) → Finishes formula_at place
formula-finishes place = let x = expr-finishes place in record { more = x.more; value = f.now x.value; enough = x.enough; spelled = λ floor m z e r. inr (inr (inr (x.value, r, x.spelled floor m z e r, (refl, refl)))) }

formula-laws : (n : ℕ) → FormulaLaw n (p.formula_reader n)
formula-laws zero = record { finishes = formula-finishes; law = λ c. absurd (omega arith) }
formula-laws (suc n) =
    let e : n ≡ suc n - 1 = omega arith in
    let P : ℕ → Type 0 = λ k. Lawful (0 < suc n) formula_at k (p.read_formula n (p.formula_reader n)) (stops_by (λ x. after_expr)) in
    subst P e (formula-lawful (0 < suc n) n (p.formula_reader n) (formula-laws n))

-- the reader of formulas within n levels has its law
pub formulas : {C : Type 0} (n : ℕ) → Lawful C formula_at n (p.read_formula n (p.formula_reader n)) (stops_by (λ x. after_expr))
formulas {C = C} n = formula-lawful C n (p.formula_reader n) (formula-laws n)

-- ---- with its place

-- the place of what begins with a token
first-steady : (floor : ℕ → ℕ) (m : ℕ) (front : Tokens) (x : Formula) → formula_at floor m (front ++ []) x [] → (z : Tokens) → first_at (front ++ z) ≡ first_at front
first-steady floor m [] x h z = absurd (let e : starts (begins formula_marks) [] ≡ true = formula-begins.holds floor m [] x [] h in cc)
first-steady floor m (t ∷ front) x h z = refl

pub placed-lawful : {C : Type 0} (n : ℕ) → Lawful C (λ floor m. placed (formula_at floor m)) n (noting first_at (p.read_formula n (p.formula_reader n))) (stops_by (λ x. after_expr))
placed-lawful {C = C} n = same-lawful to from stops (noted-lawful first_at first-steady (formulas n))
  where
    to : (floor : ℕ → ℕ) (m : ℕ) (ts : Tokens) (v : Formula × ℕ) (rest : Tokens) → noted first_at (formula_at floor m) ts v rest → placed (formula_at floor m) ts v rest
    to floor m [] v rest h = absurd (let e : starts (begins formula_marks) [] ≡ true = formula-begins.holds floor m [] v.0 rest h.0 in cc)
    to floor m (t ∷ ts) v rest h = h

    from : (floor : ℕ → ℕ) (m : ℕ) (ts : Tokens) (v : Formula × ℕ) (rest : Tokens) → placed (formula_at floor m) ts v rest → noted first_at (formula_at floor m) ts v rest
    from floor m [] v rest h = absurd h
    from floor m (t ∷ ts) v rest h = h

    stops : (v : Formula × ℕ) (t : Option Token) → stops_by (λ (x : Formula × ℕ). after_expr) v t ≡ true → stops_by (λ (x : Formula). after_expr) v.0 t ≡ true
    stops v None e = refl
    stops v (Some t) e = e
