-- Where an expression may stand: the rule for each strength of binding, and parentheses.
use Rattle.std.proofs.Common.{◌≡◌, ℕ, zero, suc, ◌+◌, ◌<◌, ◌≤◌, nat_lt, Bool, true, false, if◌then◌else◌, [], ◌∷◌, ◌++◌, ◌⊎◌, inl, inr, refl, ap, sym, subst, arith}
use Rattle.std.proofs.lemmas.Bool.{ltb-true, ltb-false}
use Rattle.smv_core.specs.declared.tree.Expr.{Expr}
use Rattle.smv_core.specs.Signs.{open_paren, close_paren}
use Rattle.smv_core.specs.Notation.{Tokens, Rule}
use Rattle.smv_core.specs.Grammar as g
use Rattle.smv_core.specs.Grammar.{Rules, below}
use Rattle.smv_print.specs.Written.{Kinds}
use Rattle.smv_print.specs.Expressions.{Spelled, spelled, within}
use Rattle.law_print_and_parse.specs.Aside.{expr_aside}
use Rattle.law_print_and_parse.proofs.Again.{Again, next, ended, left, right, sign, level}

abbrev pub f : ℕ → ℕ
f at = 0

abbrev pub inner : ℕ → Rules
inner n = below f n

abbrev pub SameExpr : Expr → Expr → Type 0
SameExpr x y = expr_aside y ≡ expr_aside x

-- the rule for what binds at least so tightly
abbrev pub rule_at : ℕ → ℕ → Rule Expr
rule_at zero m = g.expr_rule f m (inner m)
rule_at (suc zero) m = g.equivalence f m (inner m)
rule_at (suc (suc zero)) m = g.implication f m (inner m)
rule_at (suc (suc (suc zero))) m = g.disjunction f m (inner m)
rule_at (suc (suc (suc (suc zero)))) m = g.conjunction f m (inner m)
rule_at (suc (suc (suc (suc (suc zero))))) m = g.negation_rule f m (inner m)
rule_at (suc (suc (suc (suc (suc (suc zero)))))) m = g.comparison f m (inner m)
rule_at (suc (suc (suc (suc (suc (suc (suc zero))))))) m = g.modulo f m (inner m)
rule_at (suc (suc (suc (suc (suc (suc (suc (suc zero)))))))) m = g.sum f m (inner m)
rule_at (suc (suc (suc (suc (suc (suc (suc (suc (suc b))))))))) m = g.prim f m (inner m)

-- what binds more tightly will do
up : (b m : ℕ) (ts : Tokens) (x : Expr) (rest : Tokens) → rule_at (suc b) m ts x rest → rule_at b m ts x rest
up zero m ts x rest h = (x, rest, h, inr (refl, refl))
up (suc zero) m ts x rest h = (x, rest, h, inr (refl, refl))
up (suc (suc zero)) m ts x rest h = (x, rest, h, ([], rest, refl, (refl, refl)))
up (suc (suc (suc zero))) m ts x rest h = (x, rest, h, ([], rest, refl, (refl, refl)))
up (suc (suc (suc (suc zero)))) m ts x rest h = (x, rest, h, ([], rest, refl, (refl, refl)))
up (suc (suc (suc (suc (suc zero))))) m ts x rest h = inr h
up (suc (suc (suc (suc (suc (suc zero)))))) m ts x rest h = (x, rest, h, inr (inr (refl, refl)))
up (suc (suc (suc (suc (suc (suc (suc zero))))))) m ts x rest h = (x, rest, h, inr (refl, refl))
up (suc (suc (suc (suc (suc (suc (suc (suc zero)))))))) m ts x rest h = (x, rest, h, ([], rest, refl, (refl, refl)))
up (suc (suc (suc (suc (suc (suc (suc (suc (suc b))))))))) m ts x rest h = h

split : (a b : ℕ) → a ≤ suc b → (a ≤ b) ⊎ (a ≡ suc b)
split zero b h = inl (omega arith)
split (suc a) zero h = inr (omega arith)
split (suc a) (suc b) h = go (split a b (omega arith))
  where
    go : (a ≤ b) ⊎ (a ≡ suc b) → (suc a ≤ suc b) ⊎ (suc a ≡ suc (suc b))
    go (inl l) = inl (omega arith)
    go (inr e) = inr (ap suc e)

down : (a b m : ℕ) (ts : Tokens) (x : Expr) (rest : Tokens) → a ≤ b → rule_at b m ts x rest → rule_at a m ts x rest
down a zero m ts x rest l h = let e : 0 ≡ a = omega arith in let R : ℕ → Type 0 = λ k. rule_at k m ts x rest in subst R e h
down a (suc b) m ts x rest l h = go (split a b l) (λ k. down a b m ts x rest k (up b m ts x rest h))
  where
    go : (a ≤ b) ⊎ (a ≡ suc b) → (a ≤ b → rule_at a m ts x rest) → rule_at a m ts x rest
    go (inl k) lower = lower k
    go (inr e) lower = let R : ℕ → Type 0 = λ k. rule_at k m ts x rest in subst R (sym e) h

looser-rule : (a b m : ℕ) (ks : Kinds) (P : Expr → Type 0) → a ≤ b → Again (rule_at b m) ks P → Again (rule_at a m) ks P
looser-rule a b m ks P l q = record { run = λ us rest w h. let x = q.run us rest w h in (x.0, down a b m us x.0 rest l x.1, x.2) }

-- what the rule for the tightest reads, each rule reads
tightest : (b m : ℕ) (ks : Kinds) (P : Expr → Type 0) → Again (g.prim f m (inner m)) ks P → Again (rule_at b m) ks P
tightest b m ks P q =
    let e : suc (suc (suc (suc (suc (suc (suc (suc (suc b)))))))) ≡ b + 9 = omega arith in
    let R : ℕ → Type 0 = λ k. Again (rule_at k m) ks P in
    looser-rule b (b + 9) m ks P (omega arith) (subst R e q)

-- the expression is read again where one is wanted that binds at least so tightly
abbrev pub At : ℕ → ℕ → Expr → Type 0
At wanted m x = Again (rule_at wanted m) (within wanted (spelled x)) (SameExpr x)

-- the expression is read again without parentheses
abbrev pub Bare : ℕ → Expr → Type 0
Bare m x = Again (rule_at (spelled x).binding m) (spelled x).bare (SameExpr x)

pub bare-of : (m : ℕ) (x : Expr) (a : Spelled) → spelled x ≡ a → Again (rule_at a.binding m) a.bare (SameExpr x) → Bare m x
bare-of m x a e h = let P : Spelled → Type 0 = λ u. Again (rule_at u.binding m) u.bare (SameExpr x) in subst P (sym e) h

-- within n levels and within more
pub record Good (n : ℕ) (x : Expr) : Type 0 where
  pub again : (m : ℕ) → n ≤ m → Bare m x

-- it binds so tightly, or stands in parentheses and so within a level less
pub record Fits (n wanted : ℕ) (x : Expr) : Type 0 where
  pub good : Good n x
  pub tight : (wanted ≤ (spelled x).binding) ⊎ ((k : ℕ) × (suc k ≡ n) × Good k x)

in-parentheses : (k m : ℕ) (x : Expr) → Good k x → suc k ≤ m → Again (g.prim f m (inner m)) (open_paren ∷ (spelled x).bare ++ close_paren ∷ []) (SameExpr x)
in-parentheses k zero x q l = absurd (omega arith)
in-parentheses k (suc m) x q l =
    let p : Again (g.expr_rule f m (inner m)) (spelled x).bare (SameExpr x) = looser-rule 0 (spelled x).binding m (spelled x).bare (SameExpr x) (omega arith) (q.again m (omega arith)) in
    right (right (left (level (omega arith) refl (λ at. next p (λ y e. sign refl (λ _. ended e))))))

abbrev pub framed : Bool → Kinds → Kinds
framed b ks = if b then open_paren ∷ ks ++ close_paren ∷ [] else ks

pub fits-at : (n wanted : ℕ) (x : Expr) → Fits n wanted x → (m : ℕ) → n ≤ m → At wanted m x
fits-at n wanted x q m l = go (nat_lt (spelled x).binding wanted) refl q.tight
  where
    go : (b : Bool) → nat_lt (spelled x).binding wanted ≡ b → (wanted ≤ (spelled x).binding) ⊎ ((k : ℕ) × (suc k ≡ n) × Good k x) → Again (rule_at wanted m) (framed b (spelled x).bare) (SameExpr x)
    go false e t = looser-rule wanted (spelled x).binding m (spelled x).bare (SameExpr x) (ltb-false (spelled x).binding wanted e) (q.good.again m l)
    go true e (inl k) = absurd (let h : (spelled x).binding < wanted = ltb-true (spelled x).binding wanted e in omega arith)
    go true e (inr (k, s, p)) = tightest wanted m (open_paren ∷ (spelled x).bare ++ close_paren ∷ []) (SameExpr x) (in-parentheses k m x p (omega arith))

-- ---- fitting

pub wider : (n m : ℕ) (x : Expr) → n ≤ m → Good n x → Good m x
wider n m x l q = record { again = λ k h. q.again k (omega arith) }

-- an expression fits where less is wanted
pub looser : (n a b : ℕ) (x : Expr) → a ≤ b → Fits n b x → Fits n a x
looser n a b x l p = record { good = p.good; tight = go p.tight }
  where
    go : (b ≤ (spelled x).binding) ⊎ ((k : ℕ) × (suc k ≡ n) × Good k x) → (a ≤ (spelled x).binding) ⊎ ((k : ℕ) × (suc k ≡ n) × Good k x)
    go (inl h) = inl (omega arith)
    go (inr h) = inr h

-- an expression that binds so tightly fits
pub fitting : (n wanted : ℕ) (x : Expr) (a : Spelled) → spelled x ≡ a → wanted ≤ a.binding → Good n x → Fits n wanted x
fitting n wanted x a e l q = record { good = q; tight = inl (subst (λ (u : Spelled). wanted ≤ u.binding) (sym e) l) }

-- in parentheses
pub enclosed : (n k : ℕ) (x : Expr) → suc k ≡ n → Fits k 0 x → Fits n 9 x
enclosed n k x e p = record { good = wider k n x (omega arith) p.good; tight = inr (k, e, p.good) }
