-- The parts of a formula are those that its tokens spell.
use Rattle.std.proofs.Common.{◌≡◌, ◌+◌, ℕ, zero, suc, ◌++◌, length, take, drop, refl, sym, ap, ◌∙◌, arith}
use Rattle.std.proofs.Math.Seq.{take-append_seam, drop-append_seam}
use Rattle.smv_core.specs.Signs.{open_paren, close_paren, comma}
use Rattle.smv_core.specs.Signs as w
use Rattle.smv_core.specs.Notation.{Tokens, token, opener}
use Rattle.smv_core.specs.Grammar as g
use Rattle.smv_core.specs.Grammar.{below}
use Rattle.law_formulas.specs.Formulas as f
use Rattle.law_formula_grammar.specs.Grammar.{formula_below, formula_at}
use Rattle.law_translated_texts.specs.Parts.{extent, part, behind_part}
use Rattle.law_translated_texts.proofs.Going.{Goes, Steady, up, done, seq, either, plain, opening, closing, comma-goes, opener-with}
use Rattle.law_translated_texts.proofs.Expressions.{below-steady, expr-goes}

abbrev pub z : ℕ → ℕ
z at = 0

-- ---- formulas leave as many brackets open as there were

formula-step : (n : ℕ) → Steady (formula_below z n) → Steady (formula_at z n)
formula-step n below-goes h =
    let i = up h in
    let s = below-steady z n in
    either h h _ _ (seq h h h (token w.word_X) _ (plain h w.word_X refl) (λ at. seq h i h (opener z n open_paren) _ (opener-with h i z n open_paren (opening h open_paren refl)) (λ _. seq i i h (formula_below z n) _ (below-goes i) (λ x. seq i h h (token close_paren) _ (closing h close_paren refl) (λ _. done h (f.next at x))))))
    (either h h _ _ (seq h h h (opener z n w.word_if) _ (opener-with h h z n w.word_if (plain h w.word_if refl)) (λ _. seq h h h (below z n).condition _ (s.condition_steady h) (λ c. seq h h h (formula_below z n) _ (below-goes h) (λ x. done h (f.when c x)))))
    (either h h _ _ (seq h h h (token w.word_W) _ (plain h w.word_W refl) (λ _. seq h i h (opener z n open_paren) _ (opener-with h i z n open_paren (opening h open_paren refl)) (λ _. seq i i h (below z n).expr _ (s.expr_steady i) (λ p. seq i i h (token comma) _ (comma-goes h) (λ _.
    seq i i h (below z n).expr _ (s.expr_steady i) (λ q. seq i h h (token close_paren) _ (closing h close_paren refl) (λ _. done h (f.weak p q))))))))
    (seq h h h (g.expr_rule z n (below z n)) _ (expr-goes z n (below z n) s h) (λ e. done h (f.now e)))))

below-goes : (n : ℕ) → Steady (formula_below z n)
below-goes zero h ts a rest p = absurd p
below-goes (suc n) h ts a rest p = formula-step n (below-goes n) h ts a rest p

pub formula-goes : (n : ℕ) → Steady (formula_at z n)
formula-goes n = formula-step n (below-goes n)

-- ---- a part is what goes so far

-- what stops a part where no bracket is open
abbrev pub Stops : Tokens → Type 0
Stops rest = extent zero rest ≡ zero

-- a front that leaves no bracket open, before what stops it, is the part
pub record IsPart (ts rest : Tokens) : Type 0 where
  pub split : ts ≡ part ts ++ rest
  pub behind : behind_part ts ≡ rest

pub is-part : (ts rest : Tokens) → Goes (λ d. d) (λ d. d) ts rest → Stops rest → IsPart ts rest
is-part ts rest u stops =
    let count : extent zero ts ≡ length u.front = u.counts zero ∙ ap (λ k. length u.front + k) stops ∙ plus-zero (length u.front) in
    record {
      split = u.split ∙ ap (λ l. l ++ rest) (sym (ap (λ k. take k ts) count ∙ ap (λ l. take (length u.front) l) u.split ∙ take-append_seam u.front rest));
      behind = ap (λ k. drop k ts) count ∙ ap (λ l. drop (length u.front) l) u.split ∙ drop-append_seam u.front rest;
    }
  where
    plus-zero : (k : ℕ) → k + 0 ≡ k
    plus-zero k = omega arith
