-- Expressions that are written: from kinds of tokens to what they spell.
use Rattle.std.proofs.Common.{◌≡◌, ◌<◌, ℕ, true, suc, List, [], ◌∷◌, ◌++◌, map, refl, sym, ap, ◌∙◌, arith}
use Rattle.std.specs.List.{AllZip}
use Rattle.smv_core.specs.declared.token.TokenKind.{TokenKind}
use Rattle.smv_core.specs.declared.token.TokenKind.TheVariants.{Number}
use Rattle.smv_core.specs.declared.tree.Op.TheVariants as op
use Rattle.smv_core.specs.declared.tree.Path.{Path}
use Rattle.smv_core.specs.declared.tree.Expr.{Expr}
use Rattle.smv_core.specs.declared.tree.Expr.TheVariants as expr
use Rattle.smv_core.specs.Signs.{open_paren, close_paren, equal, tilde, ampersand, bar, arrow}
use Rattle.smv_core.specs.Notation.{Rule, nothing, ◌>>◌, many, token, number, same_kind}
use Rattle.smv_core.specs.Grammar as g
use Rattle.smv_core.specs.Grammar.{below, chain}
use Rattle.law_places.specs.Placeless.{placeless}
use Rattle.law_spelled_alike.specs.Local.{Any, SameValue}
use Rattle.law_spelled_alike.proofs.Plain.{SameExpr, SamePath}
use Rattle.law_spelled_alike.proofs.Expressions.{each-map}
use Rattle.law_spelled_alike.proofs.PlacelessForms.{placeless-And, placeless-Or, placeless-Implies, placeless-Signal, placeless-Number, placeless-Not, placeless-Compare}
use Rattle.law_translated_texts.proofs.Expressions.{comparisons}
use Rattle.law_written_formulas.proofs.Writing.{Sp, z, sp-nothing, sp-seq, sp-end, sp-left, sp-right, sp-number, sp-opener, IsFirst, sp-one_of, sp-after, sp-open, sp-none, sp-more, sp-many_none}

-- within so many levels
abbrev pub Prim : ℕ → Rule Expr
Prim n = g.prim z n (below z n)

abbrev pub Modulo : ℕ → Rule Expr
Modulo n = g.modulo z n (below z n)

abbrev pub Negation : ℕ → Rule Expr
Negation n = g.negation_rule z n (below z n)

abbrev pub Conjunction : ℕ → Rule Expr
Conjunction n = g.conjunction z n (below z n)

abbrev pub Disjunction : ℕ → Rule Expr
Disjunction n = g.disjunction z n (below z n)

abbrev pub Implication : ℕ → Rule Expr
Implication n = g.implication z n (below z n)

abbrev pub Expression : ℕ → Rule Expr
Expression n = g.expr_rule z n (below z n)

abbrev pub Is : Rule Expr → List TokenKind → Expr → Type 0
Is r ks e = Sp SameExpr r ks e

positive : (n : ℕ) → 0 < suc n
positive n = omega arith

-- ---- primaries

pub prim-parens : (n : ℕ) (ks : List TokenKind) (e : Expr) → Is (Expression n) ks e → Is (Prim (suc n)) (open_paren ∷ ks ++ close_paren ∷ []) e
prim-parens n ks e u = sp-right SameExpr _ _ _ e (sp-right SameExpr _ _ _ e (sp-left SameExpr _ _ _ e (sp-open SameExpr (suc n) (positive n) open_paren refl _ (ks ++ close_paren ∷ []) e
    (sp-seq SameExpr SameExpr (Expression n) _ ks (close_paren ∷ []) e e u (λ x p. sp-after SameExpr close_paren refl (nothing x) [] e (sp-nothing SameExpr e x p))))))

pub prim-number : (n v : ℕ) → Is (Prim n) (Number v ∷ []) (expr.Number v 0)
prim-number n v = sp-left SameExpr _ _ _ (expr.Number v 0) (sp-end SameValue SameExpr number _ (Number v ∷ []) (v, 0) (expr.Number v 0) (sp-number v) (λ k p. sp-nothing SameExpr (expr.Number v 0) (expr.Number k.0 k.1) (placeless-Number v 0 ∙ ap (λ m. expr.Number m 0) p ∙ sym (placeless-Number k.0 k.1))))

pub prim-path : (n : ℕ) (ks : List TokenKind) (p : Path) → Sp SamePath (g.path_rule z n (below z n)) ks p → Is (Prim n) ks (expr.Signal p)
prim-path n ks p u = sp-right SameExpr _ _ _ (expr.Signal p) (sp-left SameExpr _ _ _ (expr.Signal p) (sp-end SamePath SameExpr (g.path_rule z n (below z n)) _ ks p (expr.Signal p) u (λ q s. sp-nothing SameExpr (expr.Signal p) (expr.Signal q) (placeless-Signal p ∙ ap expr.Signal s ∙ sym (placeless-Signal q)))))

-- ---- what is no more than a part of itself

pub modulo-prim : (n : ℕ) (ks : List TokenKind) (e : Expr) → Is (Prim n) ks e → Is (Modulo n) ks e
modulo-prim n ks e u = sp-end SameExpr SameExpr (g.sum z n (below z n)) _ ks e e
    (sp-end SameExpr SameExpr (Prim n) _ ks e e u (λ x p. sp-many_none SameExpr (g.signed z n (below z n)) _ [] e (sp-nothing SameExpr e x p)))
    (λ x p. sp-right SameExpr _ _ _ e (sp-nothing SameExpr e x p))

pub negation-prim : (n : ℕ) (ks : List TokenKind) (e : Expr) → Is (Prim n) ks e → Is (Negation n) ks e
negation-prim n ks e u = sp-right SameExpr _ _ _ e (sp-end SameExpr SameExpr (Modulo n) _ ks e e (modulo-prim n ks e u) (λ x p. sp-right SameExpr _ _ _ e (sp-right SameExpr _ _ _ e (sp-nothing SameExpr e x p))))

chained-one : (n : ℕ) (k : TokenKind) (make : List Expr → Expr) (r : Rule Expr) (ks : List TokenKind) (e : Expr) → Is r ks e → Is (g.chained z n (below z n) k make r) ks e
chained-one n k make r ks e u = sp-end SameExpr SameExpr r _ ks e e u (λ x p. sp-many_none SameExpr (token k >> r) _ [] e (sp-nothing SameExpr e x p))

pub conjunction-one : (n : ℕ) (ks : List TokenKind) (e : Expr) → Is (Negation n) ks e → Is (Conjunction n) ks e
conjunction-one n = chained-one n ampersand expr.And (Negation n)

pub disjunction-one : (n : ℕ) (ks : List TokenKind) (e : Expr) → Is (Conjunction n) ks e → Is (Disjunction n) ks e
disjunction-one n = chained-one n bar expr.Or (Conjunction n)

pub implication-one : (n : ℕ) (ks : List TokenKind) (e : Expr) → Is (Disjunction n) ks e → Is (Implication n) ks e
implication-one n = chained-one n arrow expr.Implies (Disjunction n)

pub expression-of : (n : ℕ) (ks : List TokenKind) (e : Expr) → Is (Implication n) ks e → Is (Expression n) ks e
expression-of n ks e u = sp-end SameExpr SameExpr (g.equivalence z n (below z n)) _ ks e e
    (sp-end SameExpr SameExpr (Implication n) _ ks e e u (λ x p. sp-right SameExpr _ _ _ e (sp-nothing SameExpr e x p)))
    (λ x p. sp-right SameExpr _ _ _ e (sp-nothing SameExpr e x p))

pub conjunction-prim : (n : ℕ) (ks : List TokenKind) (e : Expr) → Is (Prim n) ks e → Is (Conjunction n) ks e
conjunction-prim n ks e u = conjunction-one n ks e (negation-prim n ks e u)

pub disjunction-prim : (n : ℕ) (ks : List TokenKind) (e : Expr) → Is (Prim n) ks e → Is (Disjunction n) ks e
disjunction-prim n ks e u = disjunction-one n ks e (conjunction-prim n ks e u)

pub expression-prim : (n : ℕ) (ks : List TokenKind) (e : Expr) → Is (Prim n) ks e → Is (Expression n) ks e
expression-prim n ks e u = expression-of n ks e (implication-one n ks e (disjunction-prim n ks e u))

-- ---- several parts

-- another part behind a sign
pub and-part : (k : TokenKind) → same_kind k k ≡ true → (r : Rule Expr) (ks ls : List TokenKind) (e : Expr) (es : List Expr) → Is r ks e → Sp (AllZip SameExpr) (many (token k >> r)) ls es → Sp (AllZip SameExpr) (many (token k >> r)) (k ∷ (ks ++ ls)) (e ∷ es)
and-part k same r ks ls e es u v = sp-more SameExpr (token k >> r) (k ∷ ks) ls e es (sp-after SameExpr k same r ks e u) v

pub no-part : (k : TokenKind) (r : Rule Expr) → Sp {A = List Expr} (AllZip SameExpr) (many (token k >> r)) [] []
no-part k r = sp-none SameExpr (token k >> r)

chained-all : (n : ℕ) (k : TokenKind) (make : List Expr → Expr) → ((es : List Expr) → placeless (make es) ≡ make (map placeless es)) → (r : Rule Expr) (ks ls : List TokenKind) (e : Expr) (es : List Expr) → Is r ks e → Sp (AllZip SameExpr) (many (token k >> r)) ls es → Is (g.chained z n (below z n) k make r) (ks ++ ls) (chain make e es)
chained-all n k make made r ks ls e es u v = sp-seq SameExpr SameExpr r _ ks ls e (chain make e es) u (λ x p. sp-end (AllZip SameExpr) SameExpr (many (token k >> r)) _ ls es (chain make e es) v (λ xs q. sp-nothing SameExpr (chain make e es) (chain make x xs) (same x es xs p q)))
  where
    same : (x : Expr) (es xs : List Expr) → SameExpr e x → AllZip SameExpr es xs → SameExpr (chain make e es) (chain make x xs)
    same x [] [] p q = p
    same x (d ∷ es) (y ∷ xs) p q = made (e ∷ d ∷ es) ∙ ap make (each-map placeless placeless (e ∷ d ∷ es) (x ∷ y ∷ xs) (p, q)) ∙ sym (made (x ∷ y ∷ xs))
    same x [] (y ∷ xs) p q = absurd q
    same x (d ∷ es) [] p q = absurd q

pub conjunction-all : (n : ℕ) (ks ls : List TokenKind) (e : Expr) (es : List Expr) → Is (Negation n) ks e → Sp (AllZip SameExpr) (many (token ampersand >> Negation n)) ls es → Is (Conjunction n) (ks ++ ls) (chain expr.And e es)
conjunction-all n = chained-all n ampersand expr.And placeless-And (Negation n)

pub disjunction-all : (n : ℕ) (ks ls : List TokenKind) (e : Expr) (es : List Expr) → Is (Conjunction n) ks e → Sp (AllZip SameExpr) (many (token bar >> Conjunction n)) ls es → Is (Disjunction n) (ks ++ ls) (chain expr.Or e es)
disjunction-all n = chained-all n bar expr.Or placeless-Or (Conjunction n)

pub implication-all : (n : ℕ) (ks ls : List TokenKind) (e : Expr) (es : List Expr) → Is (Disjunction n) ks e → Sp (AllZip SameExpr) (many (token arrow >> Disjunction n)) ls es → Is (Implication n) (ks ++ ls) (chain expr.Implies e es)
implication-all n = chained-all n arrow expr.Implies placeless-Implies (Disjunction n)

-- ---- comparisons and negations

pub negation-equal : (n : ℕ) (ks ls : List TokenKind) (e d : Expr) → Is (Prim n) ks e → Is (Prim n) ls d → Is (Negation n) (ks ++ equal ∷ ls) (expr.Compare op.Equal e d)
negation-equal n ks ls e d u v = sp-right SameExpr _ _ _ c (sp-seq SameExpr SameExpr (Modulo n) _ ks (equal ∷ ls) e c (modulo-prim n ks e u) (λ x p. sp-left SameExpr _ _ _ c (sp-seq IsFirst SameExpr _ _ (equal ∷ []) ls op.Equal c (sp-one_of comparisons equal op.Equal refl) (λ o s.
    sp-end SameExpr SameExpr (Modulo n) _ ls d c (modulo-prim n ls d v) (λ y q. sp-nothing SameExpr c (expr.Compare o.0 x y) (placeless-Compare op.Equal e d ∙ ap (λ m. expr.Compare m (placeless e) (placeless d)) s ∙ ap (λ m. expr.Compare o.0 m (placeless d)) p ∙ ap (λ m. expr.Compare o.0 (placeless x) m) q ∙ sym (placeless-Compare o.0 x y)))))))
  where
    c : Expr
    c = expr.Compare op.Equal e d

pub negation-not : (n : ℕ) (ks : List TokenKind) (e : Expr) → Is (Negation n) ks e → Is (Negation (suc n)) (tilde ∷ ks) (expr.Not e 0)
negation-not n ks e u = sp-left SameExpr _ _ _ (expr.Not e 0) (sp-seq {A = Unit {0}} Any SameExpr _ _ (tilde ∷ []) ks tt (expr.Not e 0) (sp-opener (suc n) (positive n) tilde refl) (λ at _.
    sp-end SameExpr SameExpr (Negation n) _ ks e (expr.Not e 0) u (λ x p. sp-nothing SameExpr (expr.Not e 0) (expr.Not x at) (placeless-Not e 0 ∙ ap (λ m. expr.Not m 0) p ∙ sym (placeless-Not x at)))))

-- `~ ( ( c ) = 0 )`
pub negation-lasting : (n : ℕ) (ks : List TokenKind) (c : Expr) → Is (Expression n) ks c →
    Is (Negation (suc (suc (suc n)))) (tilde ∷ open_paren ∷ ((open_paren ∷ ks ++ close_paren ∷ []) ++ equal ∷ Number 0 ∷ []) ++ close_paren ∷ []) (expr.Not (expr.Compare op.Equal c (expr.Number 0 0)) 0)
negation-lasting n ks c u =
    let compared = negation-equal (suc n) (open_paren ∷ ks ++ close_paren ∷ []) (Number 0 ∷ []) c (expr.Number 0 0) (prim-parens n ks c u) (prim-number (suc n) 0) in
    let e = expr.Compare op.Equal c (expr.Number 0 0) in
    let inside = expression-of (suc n) _ e (implication-one (suc n) _ e (disjunction-one (suc n) _ e (conjunction-one (suc n) _ e compared))) in
    negation-not (suc (suc n)) _ e (negation-prim (suc (suc n)) _ e (prim-parens (suc n) _ e inside))
