-- An expression that is a number has a number among its tokens, at the same offset.
use Rattle.std.proofs.Common.{◌≡◌, ℕ, zero, suc, Bool, true, false, cond, List, [], ◌∷◌, Option, Some, None, inl, inr, refl, sym, ap, subst}
use Rattle.smv_core.specs.declared.token.Token.{Token}
use Rattle.smv_core.specs.declared.token.TokenKind.{TokenKind}
use Rattle.smv_core.specs.declared.token.TokenKind.TheVariants.{Ident, Number, Sign, Reserved}
use Rattle.smv_core.specs.declared.tree.Word.{Word}
use Rattle.smv_core.specs.declared.tree.TypeExpr.{TypeExpr}
use Rattle.smv_core.specs.declared.tree.Expr.{Expr}
use Rattle.smv_core.specs.declared.tree.Expr.TheVariants as expr
use Rattle.smv_core.specs.Signs.{open_paren, ampersand, bar, arrow}
use Rattle.smv_core.specs.Notation.{Tokens, Rule, number, with_place, number_of, found, same_kind}
use Rattle.smv_core.specs.Grammar as g
use Rattle.smv_core.specs.Grammar.{Rules, below}
use Rattle.law_places.proofs.Computing.{computing}
use Rattle.law_designs.proofs.WrittenRules.{with_place-first}
use Rattle.law_grammar.specs.Marks.{any_number, has_mark}
use Rattle.law_formula_grammar.proofs.Among.{Among, Within, opener-steps}

-- ---- what is no number

module _ {X : Type 0} (v at : ℕ) where
  no-And : (es : List Expr) → expr.And es ≡ expr.Number v at → X
  unfolding computing
  no-And es e = absurd cc

  no-Or : (es : List Expr) → expr.Or es ≡ expr.Number v at → X
  unfolding computing
  no-Or es e = absurd cc

  no-Implies : (es : List Expr) → expr.Implies es ≡ expr.Number v at → X
  unfolding computing
  no-Implies es e = absurd cc

  no-Sum : (e : Expr) (more : _) → expr.Sum e more ≡ expr.Number v at → X
  unfolding computing
  no-Sum e more h = absurd cc

  no-Signal : (p : _) → expr.Signal p ≡ expr.Number v at → X
  unfolding computing
  no-Signal p e = absurd cc

  no-List : (members : _) (place : ℕ) → expr.List members place ≡ expr.Number v at → X
  unfolding computing
  no-List members place e = absurd cc

  no-Each : (x : Word) (over : TypeExpr) (c : Option Expr) (place : ℕ) → expr.Each x over c place ≡ expr.Number v at → X
  unfolding computing
  no-Each x over c place e = absurd cc

  no-Within : (e s : Expr) → expr.Within e s ≡ expr.Number v at → X
  unfolding computing
  no-Within e s h = absurd cc

  no-All : (body : Expr) (x : Word) (over : TypeExpr) (place : ℕ) → expr.All body x over place ≡ expr.Number v at → X
  unfolding computing
  no-All body x over place e = absurd cc

  no-Any : (body : Expr) (x : Word) (over : TypeExpr) (place : ℕ) → expr.Any body x over place ≡ expr.Number v at → X
  unfolding computing
  no-Any body x over place e = absurd cc

  no-reduction : (k : TokenKind) (make : Expr → Word → TypeExpr → ℕ → Expr) → found ((ampersand, expr.All) ∷ (bar, expr.Any) ∷ []) k ≡ Some make → (body : Expr) (x : Word) (over : TypeExpr) (place : ℕ) → make body x over place ≡ expr.Number v at → X
  no-reduction k make e body x over place h = by_tests (same_kind k ampersand) (same_kind k bar) e
    where
      by_tests : (b c : Bool) → cond b (Some expr.All) (cond c (Some expr.Any) None) ≡ Some make → X
      by_tests true c e = let same : expr.All ≡ make = cc in no-All body x over place (subst (λ (m : Expr → Word → TypeExpr → ℕ → Expr). m body x over place ≡ expr.Number v at) (sym same) h)
      by_tests false true e = let same : expr.Any ≡ make = cc in no-Any body x over place (subst (λ (m : Expr → Word → TypeExpr → ℕ → Expr). m body x over place ≡ expr.Number v at) (sym same) h)
      by_tests false false e = absurd cc

-- ---- the token

module _ (whole : Tokens) where
  -- a number of the whole stands at this offset
  abbrev pub IsNumberAt : ℕ → Type 0
  IsNumberAt at = (t : Token) × Among whole t × (t.at ≡ at) × (has_mark (any_number ∷ []) t.kind ≡ true)

  number-kind : (t : Token) (k : ℕ × ℕ) → with_place t.at (number_of t.kind) ≡ Some k → (t.at ≡ k.1) × (has_mark (any_number ∷ []) t.kind ≡ true)
  number-kind t k e = by_kind t.kind e
    where
      place_of : Option (ℕ × ℕ) → ℕ
      place_of None = t.at
      place_of (Some p) = p.1

      by_kind : (kind : TokenKind) → with_place t.at (number_of kind) ≡ Some k → (t.at ≡ k.1) × (has_mark (any_number ∷ []) kind ≡ true)
      by_kind (Number value) q = (ap place_of q, refl)
      by_kind (Ident bytes) q = absurd cc
      by_kind (Sign i) q = absurd cc
      by_kind (Reserved i) q = absurd cc

  -- where the rule spells a number, it stands among the tokens
  abbrev Numbered : Rule Expr → Type 0
  Numbered r = (ts : Tokens) (v at : ℕ) (rest : Tokens) → r ts (expr.Number v at) rest → Within whole ts → IsNumberAt at

  -- what spells it is known up to what it spells
  taking : (r : Rule Expr) → Numbered r → (ts : Tokens) (x : Expr) (v at : ℕ) (rest : Tokens) → r ts x rest → x ≡ expr.Number v at → Within whole ts → IsNumberAt at
  taking r h ts x v at rest p e w = h ts v at rest (subst (λ z. r ts z rest) e p) w

  module _ (floor : ℕ → ℕ) (n : ℕ) (inner : Rules) (deeper : Numbered inner.expr) where
    number-numbered : (ts : Tokens) (k : ℕ × ℕ) (middle : Tokens) → number ts k middle → (v at : ℕ) → expr.Number k.0 k.1 ≡ expr.Number v at → Within whole ts → IsNumberAt at
    number-numbered [] k middle p v at e w = absurd p
    number-numbered (t ∷ ts) k middle p v at e w = let s = number-kind t k p.0 in let q : k.1 ≡ at = cc in (t, w.0, subst (λ z. t.at ≡ z) q s.0, s.1)

    condition-numbered : Numbered (g.condition_rule floor n inner)
    condition-numbered ts v at rest (o, m0, p0, (x, m1, p1, (c, m2, p2, (eq, r)))) w = taking inner.expr deeper m0 x v at m1 p1 eq (opener-steps whole floor n open_paren ts o m0 p0 w).0

    reduction-none : {X : Type 0} (ts : Tokens) (v at : ℕ) (rest : Tokens) → g.reduction floor n inner ts (expr.Number v at) rest → X
    reduction-none [] v at rest h = absurd h.2
    reduction-none (t ∷ ts) v at rest (make, m0, p, (o, m1, p1, (x, m2, p2, (c, m3, p3, (y, m4, p4, (i, m5, p5, (over, m6, p6, (d, m7, p7, (eq, r))))))))) =
        no-reduction v at t.kind make.0 (with_place-first t.at (found ((ampersand, expr.All) ∷ (bar, expr.Any) ∷ []) t.kind) make p.0) x y over make.1 eq

    prim-numbered : Numbered (g.prim floor n inner)
    prim-numbered ts v at rest (inl (k, m0, p, (eq, r))) w = number-numbered ts k m0 p v at eq w
    prim-numbered ts v at rest (inr (inl (path, m0, p, (eq, r)))) w = no-Signal v at path eq
    prim-numbered ts v at rest (inr (inr (inl h))) w = condition-numbered ts v at rest h w
    prim-numbered ts v at rest (inr (inr (inr (inl (inl (o, m0, p0, (ms, m1, p1, (c, m2, p2, (eq, r))))))))) w = no-List v at ms o eq
    prim-numbered ts v at rest (inr (inr (inr (inl (inr (o, m0, p0, (x, m1, p1, (c, m2, p2, (s, m3, p3, (i, m4, p4, (over, m5, p5, (cond, m6, p6, (d, m7, p7, (eq, r)))))))))))))) w = no-Each v at x over cond o eq
    prim-numbered ts v at rest (inr (inr (inr (inr h)))) w = reduction-none ts v at rest h

    sum-numbered : Numbered (g.sum floor n inner)
    sum-numbered ts v at rest (x, m0, p, ([], m1, q, (eq, r))) w = taking (g.prim floor n inner) prim-numbered ts x v at m0 p eq w
    sum-numbered ts v at rest (x, m0, p, (y ∷ more, m1, q, (eq, r))) w = no-Sum v at x (y ∷ more) eq

    modulo-numbered : Numbered (g.modulo floor n inner)
    modulo-numbered ts v at rest (x, m0, p, inl (m, m1, q, (k, m2, q2, (eq, r)))) w = absurd cc
    modulo-numbered ts v at rest (x, m0, p, inr (eq, r)) w = taking (g.sum floor n inner) sum-numbered ts x v at m0 p eq w

    comparison-numbered : Numbered (g.comparison floor n inner)
    comparison-numbered ts v at rest (x, m0, p, inl (o, m1, q, (y, m2, q2, (eq, r)))) w = absurd cc
    comparison-numbered ts v at rest (x, m0, p, inr (inl (i, m1, q, (s, m2, q2, (eq, r))))) w = no-Within v at x s eq
    comparison-numbered ts v at rest (x, m0, p, inr (inr (eq, r))) w = taking (g.modulo floor n inner) modulo-numbered ts x v at m0 p eq w

    negation-numbered : Numbered (g.negation_rule floor n inner)
    negation-numbered ts v at rest (inl (o, m0, p, (x, m1, q, (eq, r)))) w = absurd cc
    negation-numbered ts v at rest (inr h) w = comparison-numbered ts v at rest h w

    chained-numbered : (k : TokenKind) (make : List Expr → Expr) → ((v at : ℕ) (es : List Expr) → make es ≡ expr.Number v at → ⊥) → (r : Rule Expr) → Numbered r → Numbered (g.chained floor n inner k make r)
    chained-numbered k make none r h ts v at rest (x, m0, p, ([], m1, q, (eq, e))) w = taking r h ts x v at m0 p eq w
    chained-numbered k make none r h ts v at rest (x, m0, p, (y ∷ more, m1, q, (eq, e))) w = absurd (none v at (x ∷ y ∷ more) eq)

    implication-numbered : Numbered (g.implication floor n inner)
    implication-numbered = chained-numbered arrow expr.Implies (λ v at es e. no-Implies v at es e) (g.disjunction floor n inner) (chained-numbered bar expr.Or (λ v at es e. no-Or v at es e) (g.conjunction floor n inner)
        (chained-numbered ampersand expr.And (λ v at es e. no-And v at es e) (g.negation_rule floor n inner) negation-numbered))

    equivalence-numbered : Numbered (g.equivalence floor n inner)
    equivalence-numbered ts v at rest (x, m0, p, inl (d, m1, q, (y, m2, q2, (eq, r)))) w = absurd cc
    equivalence-numbered ts v at rest (x, m0, p, inr (eq, r)) w = taking (g.implication floor n inner) implication-numbered ts x v at m0 p eq w

    expr-numbered : Numbered (g.expr_rule floor n inner)
    expr-numbered ts v at rest (c, m0, p, inl (o, m1, q, (x, m2, q2, (d, m3, q3, (y, m4, q4, (eq, r)))))) w = absurd cc
    expr-numbered ts v at rest (c, m0, p, inr (eq, r)) w = taking (g.equivalence floor n inner) equivalence-numbered ts c v at m0 p eq w

  -- ---- for each number of levels

  inner-numbered : (floor : ℕ → ℕ) (n : ℕ) → Numbered (below floor n).expr
  inner-numbered floor zero ts v at rest h w = absurd h
  inner-numbered floor (suc n) ts v at rest h w = expr-numbered floor n (below floor n) (inner-numbered floor n) ts v at rest h w

  pub numbered : (floor : ℕ → ℕ) (n : ℕ) → Numbered (g.expr_rule floor n (below floor n))
  numbered floor n = expr-numbered floor n (below floor n) (inner-numbered floor n)
