-- The parts of a formula spell its conditions and expressions.
use Rattle.std.proofs.Common.{◌≡◌, ◌≤◌, ℕ, zero, suc, [], ◌∷◌, drop, Some, None, Bool, true, false, if◌then◌else◌, inl, inr, refl, sym, ap, ◌∙◌, subst, arith}
use Rattle.smv_core.specs.declared.token.Token.{Token}
use Rattle.smv_core.specs.declared.token.TokenKind.{TokenKind}
use Rattle.smv_core.specs.declared.tree.Expr.{Expr}
use Rattle.smv_core.specs.Signs.{open_paren, close_paren, comma}
use Rattle.smv_core.specs.Signs as w
use Rattle.smv_core.specs.Notation.{Tokens, token, opener, same_kind}
use Rattle.smv_core.specs.Grammar as g
use Rattle.smv_core.specs.Grammar.{below}
use Rattle.law_exchanged.proofs.Before.{more-levels, spelled-alone}
use Rattle.law_formulas.specs.Formulas.{Formula}
use Rattle.law_formula_grammar.specs.Grammar.{formula_below, formula_at}
use Rattle.law_translated_texts.specs.Parts.{Mark, mark_of, marked, extent, part, behind_part, parts_of}
use Rattle.law_translated_texts.specs.Parts.Mark.{Closes, Parts}
use Rattle.law_translated_texts.specs.Laws.{SpellsAside, AreSpelled, PartsAreSpelled}
use Rattle.law_translated_texts.proofs.Going.{kind-is}
use Rattle.law_translated_texts.proofs.Expressions.{below-steady, expr-goes}
use Rattle.law_translated_texts.proofs.Formulas.{z, Stops, is-part, formula-goes}

-- ---- single tokens

pub token-is : (k : TokenKind) (ts : Tokens) (at : ℕ) (rest : Tokens) → token k ts at rest → (t : Token) × (ts ≡ t ∷ rest) × (t.kind ≡ k)
token-is k [] at rest h = absurd h
token-is k (t ∷ ts) at rest h = (t, ap (λ l. t ∷ l) h.1, kind-is k t.kind (by_test (same_kind t.kind k) h.0))
  where
    by_test : (b : Bool) → (if b then Some t.at else None) ≡ Some at → b ≡ true
    by_test true e = refl
    by_test false e = absurd (cc (e))

pub opener-is : (n : ℕ) (k : TokenKind) (ts : Tokens) (at : ℕ) (rest : Tokens) → opener z n k ts at rest → (t : Token) × (ts ≡ t ∷ rest) × (t.kind ≡ k)
opener-is n k ts at rest (a, middle, p, (u, more, q, r)) =
    let i = token-is k ts a middle p in
    (i.0, i.1 ∙ ap (λ l. i.0 ∷ l) (q.1.1 ∙ r.1), i.2)

-- a token with this mark ends a part
stop-at : (m : Mark) → ((more : ℕ → ℕ) → marked m zero more ≡ zero) → (k : TokenKind) → mark_of k ≡ m → (ts rest : Tokens) (t : Token) → ts ≡ t ∷ rest → t.kind ≡ k → Stops ts
stop-at m h k e ts rest t split kind =
    ap (extent zero) split ∙ ap (λ j. marked (mark_of j) zero (λ depth. extent depth rest)) kind ∙ ap (λ q. marked q zero (λ depth. extent depth rest)) e ∙ h (λ depth. extent depth rest)

abbrev closes : (ts rest : Tokens) (t : Token) → ts ≡ t ∷ rest → t.kind ≡ close_paren → Stops ts
closes = stop-at Closes (λ more. refl) close_paren refl

abbrev parted : (ts rest : Tokens) (t : Token) → ts ≡ t ∷ rest → t.kind ≡ comma → Stops ts
parted = stop-at Parts (λ more. refl) comma refl

-- ---- expressions

expr-spelled : (k n : ℕ) → k ≤ n → (ts : Tokens) (e : Expr) (rest : Tokens) → g.expr_rule z k (below z k) ts e rest → Stops rest → SpellsAside n (part ts) e
expr-spelled k n le ts e rest h stops =
    let p = is-part ts rest (expr-goes z k (below z k) (below-steady z k) (λ d. d) ts e rest h) stops in
    let x = spelled-alone k (part ts) rest e (subst (λ l. g.expr_rule z k (below z k) l e rest) p.split h) in
    (x.0, more-levels k n le (part ts) x.0 x.1, x.2)

below-spelled : (k n : ℕ) → k ≤ n → (ts : Tokens) (e : Expr) (rest : Tokens) → (below z k).expr ts e rest → Stops rest → SpellsAside n (part ts) e
below-spelled zero n le ts e rest h stops = absurd h
below-spelled (suc k) n le ts e rest h stops = expr-spelled k n (omega (arith, le)) ts e rest h stops

below-part : (k : ℕ) (ts : Tokens) (e : Expr) (rest : Tokens) → (below z k).expr ts e rest → Stops rest → behind_part ts ≡ rest
below-part k ts e rest h stops = (is-part ts rest ((below-steady z k).expr_steady (λ d. d) ts e rest h) stops).behind

-- a condition is a part in parentheses
pub record IsCondition (n : ℕ) (ts : Tokens) (c : Expr) (rest : Tokens) : Type 0 where
  pub first : Token
  pub inside : Tokens
  pub split : ts ≡ first ∷ inside
  pub spelled : SpellsAside n (part inside) c
  pub behind : drop 1 (behind_part inside) ≡ rest

condition-is : (k n : ℕ) → k ≤ n → (ts : Tokens) (c : Expr) (rest : Tokens) → (below z k).condition ts c rest → IsCondition n ts c rest
condition-is zero n le ts c rest h = absurd h
condition-is (suc k) n le ts c rest (at, a, o, (x, b, p, (at2, d, q, (e, s)))) =
    let i = opener-is k open_paren ts at a o in
    let j = token-is close_paren b at2 d q in
    let stops = closes b d j.0 j.1 j.2 in
    record {
      first = i.0;
      inside = a;
      split = i.1;
      spelled = subst (λ y. SpellsAside n (part a) y) e (below-spelled k n (omega (arith, le)) a x b p stops);
      behind = ap (drop 1) (below-part k a x b p stops ∙ j.1) ∙ s;
    }

-- ---- formulas

abbrev Inner : ℕ → ℕ → Type 0
Inner k n = (ts : Tokens) (x : Formula) (rest : Tokens) → formula_below z k ts x rest → Stops rest → AreSpelled n x (parts_of x ts)

formula-step : (k n : ℕ) → k ≤ n → Inner k n → (ts : Tokens) (x : Formula) (rest : Tokens) → formula_at z k ts x rest → Stops rest → AreSpelled n x (parts_of x ts)
formula-step k n le rec ts x rest (inl (at, a, o, (at2, b, p, (y, c, r, (at3, d, q, (e, s)))))) stops =
    let i = token-is w.word_X ts at a o in
    let j = opener-is k open_paren a at2 b p in
    let l = token-is close_paren c at3 d q in
    let two : drop 2 ts ≡ b = ap (drop 2) (i.1 ∙ ap (λ m. i.0 ∷ m) j.1) in
    subst (λ v. AreSpelled n v (parts_of v ts)) e (subst (λ m. AreSpelled n y (parts_of y m)) (sym two) (rec b y c r (closes c d l.0 l.1 l.2)))
formula-step k n le rec ts x rest (inr (inl (at, a, o, (c, b, p, (y, d, r, (e, s)))))) stops =
    let i = opener-is k w.word_if ts at a o in
    let j = condition-is k n le a c b p in
    let two : drop 2 ts ≡ j.inside = ap (drop 2) (i.1 ∙ ap (λ m. i.0 ∷ m) j.split) in
    let inner : AreSpelled n y (parts_of y (drop 1 (behind_part j.inside))) = subst (λ m. AreSpelled n y (parts_of y m)) (sym j.behind) (rec b y d r (ap (extent zero) s ∙ stops)) in
    subst (λ v. AreSpelled n v (parts_of v ts)) e (subst (λ m. SpellsAside n (part m) c × AreSpelled n y (parts_of y (drop 1 (behind_part m)))) (sym two) (j.spelled, inner))
formula-step k n le rec ts x rest (inr (inr (inl (at, a, o, (at2, b, p, (u, c, hu, (at3, d, q, (v, c', hv, (at4, d', q', (e, s)))))))))) stops =
    let i = token-is w.word_W ts at a o in
    let j = opener-is k open_paren a at2 b p in
    let l = token-is comma c at3 d q in
    let m = token-is close_paren c' at4 d' q' in
    let two : drop 2 ts ≡ b = ap (drop 2) (i.1 ∙ ap (λ r. i.0 ∷ r) j.1) in
    let first = parted c d l.0 l.1 l.2 in
    let behind : drop 1 (behind_part b) ≡ d = ap (drop 1) (below-part k b u c hu first ∙ l.1) in
    let second : SpellsAside n (part (drop 1 (behind_part b))) v = subst (λ r. SpellsAside n (part r) v) (sym behind) (below-spelled k n le d v c' hv (closes c' d' m.0 m.1 m.2)) in
    subst (λ y. AreSpelled n y (parts_of y ts)) e (subst (λ r. SpellsAside n (part r) u × SpellsAside n (part (drop 1 (behind_part r))) v) (sym two) (below-spelled k n le b u c hu first, second))
formula-step k n le rec ts x rest (inr (inr (inr (y, a, h, (e, s))))) stops =
    subst (λ v. AreSpelled n v (parts_of v ts)) e (expr-spelled k n le ts y a h (ap (extent zero) s ∙ stops))

inner-spelled : (k n : ℕ) → k ≤ n → Inner k n
inner-spelled zero n le ts x rest h stops = absurd h
inner-spelled (suc k) n le ts x rest h stops = let low : k ≤ n = omega (arith, le) in formula-step k n low (inner-spelled k n low) ts x rest h stops

pub parts-spelled : PartsAreSpelled
parts-spelled n ts x rest h stops = (
  (is-part ts rest (formula-goes n (λ d. d) ts x rest h) stops).split,
  formula-step n n (omega arith) (inner-spelled n n (omega arith)) ts x rest h stops,
)
