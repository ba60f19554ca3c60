-- An expression leaves as many brackets opened as there were before it, and has no comma outside of brackets of its own.
use Rattle.std.proofs.Common.{◌≡◌, ℕ, zero, suc, List, [], ◌∷◌, true, false, refl}
use Rattle.smv_core.specs.declared.tree.Op.{Op}
use Rattle.smv_core.specs.declared.tree.Op.TheVariants as op
use Rattle.smv_core.specs.declared.tree.Expr.{Expr}
use Rattle.smv_core.specs.declared.tree.Expr.TheVariants as expr
use Rattle.smv_core.specs.declared.tree.Member.TheVariants as member
use Rattle.smv_core.specs.declared.tree.Part.TheVariants as part
use Rattle.smv_core.specs.declared.tree.TypeExpr.TheVariants as type
use Rattle.smv_core.specs.declared.token.TokenKind.{TokenKind}
use Rattle.smv_core.specs.Signs.{open_paren, close_paren, open_bracket, close_bracket, open_brace, close_brace, colon, comma, dot, dots, equal, differ, less, at_most, greater, at_least, plus, minus, tilde, ampersand, bar, arrow, double_arrow, question}
use Rattle.smv_core.specs.Signs as w
use Rattle.smv_core.specs.Notation.{Rule, ◌>>◌, many, token, name, number, same_name, separated, one_of, optional, opener}
use Rattle.smv_core.specs.Grammar as g
use Rattle.smv_core.specs.Grammar.{Rules, named, sum_of, chain}
use Rattle.law_translated_texts.specs.Parts.{mark_of}
use Rattle.law_translated_texts.specs.Parts.Mark.{Stays}
use Rattle.law_translated_texts.proofs.Going.{GoesBy, Steady, up, done, seq, either, many-goes, optional-goes, plain, opening, closing, comma-goes, opener-with, name-goes, number-goes, same_name-goes, one_of-goes, separated-goes}

pub span-goes : Steady g.span
span-goes f = seq f f f number _ (number-goes f) (λ low. seq f f f (token dots) _ (plain f dots refl) (λ _. seq f f f number _ (number-goes f) (λ high. done f _)))

pub index-goes : Steady g.index
index-goes f =
    either f f _ _ (seq f f f (token w.word_boolean) _ (plain f w.word_boolean refl) (λ _. done f type.Boolean))
    (either f f _ _ (seq f f f g.span _ (span-goes f) (λ s. done f (type.Range s.0 s.1)))
    (seq f f f name _ (name-goes f) (λ x. done f (type.Named x x.at))))

abbrev pub comparisons : List (TokenKind × Op)
comparisons = (equal, op.Equal) ∷ (differ, op.Differ) ∷ (less, op.Less) ∷ (at_most, op.AtMost) ∷ (greater, op.Greater) ∷ (at_least, op.AtLeast) ∷ []

-- what stands inside a level
pub record AreSteady (r : Rules) : Type 0 where
  pub expr_steady : Steady r.expr
  pub negation_steady : Steady r.negation
  pub member_steady : Steady r.member
  pub condition_steady : Steady r.condition

module _ (z : ℕ → ℕ) (n : ℕ) (inner : Rules) (steady : AreSteady inner) where
  -- a bracket that is opened
  opened : (f : ℕ → ℕ) (k : TokenKind) → GoesBy f (up f) (token k) → GoesBy f (up f) (opener z n k)
  opened f k u = opener-with f (up f) z n k u

  part-goes : Steady (g.part_rule z n inner)
  part-goes f =
      either f f _ _ (seq f f f (token dot) _ (plain f dot refl) (λ _. seq f f f name _ (name-goes f) (λ x. done f (part.Field x))))
      (seq f (up f) f _ _ (opened f open_bracket (opening f open_bracket refl)) (λ _. seq (up f) (up f) f inner.expr _ (steady.expr_steady (up f)) (λ x. seq (up f) f f (token close_bracket) _ (closing f close_bracket refl) (λ _. done f (part.At x)))))

  path-goes : Steady (g.path_rule z n inner)
  path-goes f = seq f f f name _ (name-goes f) (λ x. seq f f f (many (g.part_rule z n inner)) _ (many-goes f (g.part_rule z n inner) (part-goes f)) (λ more. done f (named x more)))

  pub condition-goes : Steady (g.condition_rule z n inner)
  condition-goes f = seq f (up f) f _ _ (opened f open_paren (opening f open_paren refl)) (λ _. seq (up f) (up f) f inner.expr _ (steady.expr_steady (up f)) (λ x. seq (up f) f f (token close_paren) _ (closing f close_paren refl) (λ _. done f x)))

  listed-goes : Steady (g.listed z n inner)
  listed-goes f = seq f (up f) f _ _ (opened f open_brace (opening f open_brace refl)) (λ at. seq (up f) (up f) f (separated inner.member) _ (separated-goes f inner.member (steady.member_steady (up f))) (λ members. seq (up f) f f (token close_brace) _ (closing f close_brace refl) (λ _. done f (expr.List members at))))

  comprehension-goes : Steady (g.comprehension z n inner)
  comprehension-goes f = let i = up f in seq f i f _ _ (opened f open_brace (opening f open_brace refl)) (λ at. seq i i f name _ (name-goes i) (λ x. seq i i f (token colon) _ (plain i colon refl) (λ _. seq i i f (same_name x) _ (same_name-goes x i) (λ _. seq i i f (token w.word_in) _ (plain i w.word_in refl) (λ _.
      seq i i f g.index _ (index-goes i) (λ over. seq i i f (optional (token comma >> inner.expr)) _ (optional-goes i (token comma >> inner.expr) (seq i i i (token comma) _ (comma-goes f) (λ _. steady.expr_steady i))) (λ cond. seq i f f (token close_brace) _ (closing f close_brace refl) (λ _. done f (expr.Each x over cond at)))))))))

  set-goes : Steady (g.set z n inner)
  set-goes f = either f f _ _ (listed-goes f) (comprehension-goes f)

  reduction-goes : Steady (g.reduction z n inner)
  reduction-goes f = let i = up f in seq f f f (one_of ((ampersand, expr.All) ∷ (bar, expr.Any) ∷ [])) _ (one_of-goes ((ampersand, expr.All) ∷ (bar, expr.Any) ∷ []) (refl, (refl, tt)) f) (λ make. seq f i f _ _ (opened f open_bracket (opening f open_bracket refl)) (λ _. seq i i f inner.expr _ (steady.expr_steady i) (λ x.
      seq i i f (token colon) _ (plain i colon refl) (λ _. seq i i f name _ (name-goes i) (λ v. seq i i f (token w.word_in) _ (plain i w.word_in refl) (λ _. seq i i f g.index _ (index-goes i) (λ over. seq i f f (token close_bracket) _ (closing f close_bracket refl) (λ _. done f (make.0 x v over make.1)))))))))

  prim-goes : Steady (g.prim z n inner)
  prim-goes f =
      either f f _ _ (seq f f f number _ (number-goes f) (λ k. done f (expr.Number k.0 k.1)))
      (either f f _ _ (seq f f f (g.path_rule z n inner) _ (path-goes f) (λ p. done f (expr.Signal p)))
      (either f f _ _ (condition-goes f) (either f f _ _ (set-goes f) (reduction-goes f))))

  signed-goes : Steady (g.signed z n inner)
  signed-goes f = seq f f f (one_of ((plus, false) ∷ (minus, true) ∷ [])) _ (one_of-goes ((plus, false) ∷ (minus, true) ∷ []) (refl, (refl, tt)) f) (λ sign. seq f f f (g.prim z n inner) _ (prim-goes f) (λ x. done f _))

  sum-goes : Steady (g.sum z n inner)
  sum-goes f = seq f f f (g.prim z n inner) _ (prim-goes f) (λ x. seq f f f (many (g.signed z n inner)) _ (many-goes f (g.signed z n inner) (signed-goes f)) (λ more. done f (sum_of x more)))

  modulo-goes : Steady (g.modulo z n inner)
  modulo-goes f = seq f f f (g.sum z n inner) _ (sum-goes f) (λ x. either f f _ _ (seq f f f (token w.word_mod) _ (plain f w.word_mod refl) (λ _. seq f f f number _ (number-goes f) (λ k. done f (expr.Modulo x k.0 k.1)))) (done f x))

  comparison-goes : Steady (g.comparison z n inner)
  comparison-goes f = seq f f f (g.modulo z n inner) _ (modulo-goes f) (λ x. either f f _ _ (seq f f f (one_of comparisons) _ (one_of-goes comparisons (refl, (refl, (refl, (refl, (refl, (refl, tt)))))) f) (λ o. seq f f f (g.modulo z n inner) _ (modulo-goes f) (λ y. done f (expr.Compare o.0 x y))))
      (either f f _ _ (seq f f f (token w.word_in) _ (plain f w.word_in refl) (λ _. seq f f f (g.set z n inner) _ (set-goes f) (λ s. done f (expr.Within x s)))) (done f x)))

  negation-goes : Steady (g.negation_rule z n inner)
  negation-goes f = either f f _ _ (seq f f f (opener z n tilde) _ (opener-with f f z n tilde (plain f tilde refl)) (λ at. seq f f f inner.negation _ (steady.negation_steady f) (λ x. done f (expr.Not x at)))) (comparison-goes f)

  chained-goes : (k : TokenKind) → mark_of k ≡ Stays → (make : _) (r : Rule Expr) → Steady r → Steady (g.chained z n inner k make r)
  chained-goes k e make r u f = seq f f f r _ (u f) (λ x. seq f f f (many (token k >> r)) _ (many-goes f (token k >> r) (seq f f f (token k) _ (plain f k e) (λ _. u f))) (λ more. done f (chain make x more)))

  implication-goes : Steady (g.implication z n inner)
  implication-goes = chained-goes arrow refl expr.Implies (g.disjunction z n inner) (chained-goes bar refl expr.Or (g.conjunction z n inner) (chained-goes ampersand refl expr.And (g.negation_rule z n inner) negation-goes))

  equivalence-goes : Steady (g.equivalence z n inner)
  equivalence-goes f = seq f f f (g.implication z n inner) _ (implication-goes f) (λ x. either f f _ _ (seq f f f (token double_arrow) _ (plain f double_arrow refl) (λ _. seq f f f (g.implication z n inner) _ (implication-goes f) (λ y. done f (expr.Iff x y)))) (done f x))

  pub expr-goes : Steady (g.expr_rule z n inner)
  expr-goes f = seq f f f (g.equivalence z n inner) _ (equivalence-goes f) (λ c. either f f _ _ (seq f f f (opener z n question) _ (opener-with f f z n question (plain f question refl)) (λ _. seq f f f inner.expr _ (steady.expr_steady f) (λ x. seq f f f (token colon) _ (plain f colon refl) (λ _. seq f f f inner.expr _ (steady.expr_steady f) (λ y. done f (expr.Choose c x y)))))) (done f c))

  member-goes : Steady (g.member_rule z n inner)
  member-goes f = either f f _ _ (seq f f f (g.expr_rule z n inner) _ (expr-goes f) (λ x. done f (member.One x))) (seq f f f g.span _ (span-goes f) (λ s. done f (member.Span s.0 s.1)))

pub below-steady : (z : ℕ → ℕ) (n : ℕ) → AreSteady (g.below z n)
below-steady z zero = record { expr_steady = λ f ts a rest h. absurd h; negation_steady = λ f ts a rest h. absurd h; member_steady = λ f ts a rest h. absurd h; condition_steady = λ f ts a rest h. absurd h }
below-steady z (suc n) = let inner = g.below z n in let s = below-steady z n in record { expr_steady = expr-goes z n inner s; negation_steady = negation-goes z n inner s; member_steady = member-goes z n inner s; condition_steady = condition-goes z n inner s }
