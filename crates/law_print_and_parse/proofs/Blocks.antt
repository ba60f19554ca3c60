-- What the rule of statements spells within any number of levels is spelled again.
use Rattle.std.proofs.Common.{◌≡◌, ℕ, zero, suc, List, inl, inr, refl, ap, sym, ◌∙◌, subst}
use Rattle.smv_core.specs.declared.tree.Stmt.{Stmt}
use Rattle.smv_core.specs.declared.tree.Stmt.TheVariants as stmt
use Rattle.smv_core.specs.Grammar as g
use Rattle.smv_core.specs.Grammar.{Turns}
use Rattle.smv_print.specs.Statements.{stmt_kinds}
use Rattle.smv_print.proofs.StatementLaws as k
use Rattle.law_print_and_parse.specs.Aside.{word_aside, type_aside, stmt_aside}
use Rattle.law_print_and_parse.proofs.AsideStatements as a
use Rattle.law_print_and_parse.proofs.Again.{Again, next, made, ended, left, right, regroup, sign, level}
use Rattle.law_print_and_parse.proofs.Keeps.{Keeps, keeps-many}
use Rattle.law_print_and_parse.proofs.Levels.{f, inner}
use Rattle.law_print_and_parse.proofs.Statements.{Bound, binder_aside, SameStmt, KeepsStmt, keeps-only, assignment-kept, timed-kept}
use Rattle.law_print_and_parse.proofs.Branches.{inner-binder, turns_aside, inner-turns, if-kept, arms_aside, arms_kinds, arms-kept, switch-kept}

-- ---- statements of statements

default-same : (x y u v : Stmt) (at at' : ℕ) → SameStmt x u → SameStmt y v → SameStmt (stmt.Default x y at) (stmt.Default u v at')
default-same x y u v at at' p q = (
  a.stmt-Default u v at' ∙ ap (λ (z : Stmt). stmt.Default z (stmt_aside v) 0) p.0 ∙ ap (λ (z : Stmt). stmt.Default (stmt_aside x) z 0) q.0 ∙ sym (a.stmt-Default x y at),
  a.open-Default u v at' ∙ q.1 ∙ sym (a.open-Default x y at),
)

default-kept : (n : ℕ) → KeepsStmt (inner n).stmt → KeepsStmt (g.default f n (inner n))
default-kept n h ts z rest (at, m0, (a1, m1, ht, (u, m2, (some, q), e0)), (x, m3, hx, (a4, m4, h4, (y, m5, hy, (e, r))))) =
    let P : Stmt → Type 0 = λ z. Again (g.default f n (inner n)) (stmt_kinds z) (SameStmt z) in
    subst P e (regroup (sym (k.stmt-Default x y at)) (level some refl (λ at'. next (h m0 x m3 hx) (λ u p. sign refl (λ _. made (h m4 y m5 hy) (λ v q. default-same x y u v at at' p q))))))

for-same : (t s : Turns) (x y : Stmt) (at at' : ℕ) → turns_aside s ≡ turns_aside t → SameStmt x y → SameStmt (stmt.For t.var t.from t.to t.closed t.step x at) (stmt.For s.var s.from s.to s.closed s.step y at')
for-same t s x y at at' p q = (
  a.stmt-For s.var s.from s.to s.closed s.step y at' ∙ ap (λ (z : Turns). stmt.For z.var z.from z.to z.closed z.step (stmt_aside y) 0) p
      ∙ ap (λ (z : Stmt). stmt.For (word_aside t.var) t.from t.to t.closed t.step z 0) q.0 ∙ sym (a.stmt-For t.var t.from t.to t.closed t.step x at),
  a.open-For s.var s.from s.to s.closed s.step y at' ∙ q.1 ∙ sym (a.open-For t.var t.from t.to t.closed t.step x at),
)

for-kept : (n : ℕ) → KeepsStmt (inner n).stmt → KeepsStmt (g.for f n (inner n))
for-kept n h ts z rest (at, m0, (a1, m1, ht, (u, m2, (some, q), e0)), (t, m3, hi, (x, m4, hx, (e, r)))) =
    let P : Stmt → Type 0 = λ z. Again (g.for f n (inner n)) (stmt_kinds z) (SameStmt z) in
    subst P e (regroup (sym (k.stmt-For t.var t.from t.to t.closed t.step x at)) (level some refl (λ at'. next (inner-turns n m0 t m3 hi) (λ s p. made (h m3 x m4 hx) (λ y q. for-same t s x y at at' p q)))))

forall-same : (b c : Bound) (x y : Stmt) (at at' : ℕ) → binder_aside c ≡ binder_aside b → SameStmt x y → SameStmt (stmt.Forall b.0 b.1 x at) (stmt.Forall c.0 c.1 y at')
forall-same b c x y at at' p q = (
  a.stmt-Forall c.0 c.1 y at' ∙ ap (λ (z : Bound). stmt.Forall z.0 z.1 (stmt_aside y) 0) p ∙ ap (λ (z : Stmt). stmt.Forall (word_aside b.0) (type_aside b.1) z 0) q.0 ∙ sym (a.stmt-Forall b.0 b.1 x at),
  a.open-Forall c.0 c.1 y at' ∙ q.1 ∙ sym (a.open-Forall b.0 b.1 x at),
)

abbrev SimpleKept : ℕ → Type 0
SimpleKept n = KeepsStmt (g.simple f n (inner n))

simple-kept : (n : ℕ) → KeepsStmt (inner n).stmt → Keeps (inner n).arms arms_kinds arms_aside → SimpleKept n
simple-kept n h i ts z rest (inl k) = left (assignment-kept n ts z rest k)
simple-kept n h i ts z rest (inr (inl k)) = right (left (timed-kept n ts z rest k))
simple-kept n h i ts z rest (inr (inr (inl k))) = right (right (left (if-kept n h ts z rest k)))
simple-kept n h i ts z rest (inr (inr (inr (inl k)))) = right (right (right (left (switch-kept n i ts z rest k))))
simple-kept n h i ts z rest (inr (inr (inr (inr (inl k))))) = right (right (right (right (left (default-kept n h ts z rest k)))))
simple-kept n h i ts z rest (inr (inr (inr (inr (inr k))))) = right (right (right (right (right (for-kept n h ts z rest k)))))

stmt-kept : (n : ℕ) → KeepsStmt (inner n).stmt → SimpleKept n → KeepsStmt (g.stmt_rule f n (inner n))
stmt-kept n h i ts z rest (inl (at, m0, (a1, m1, ht, (u, m2, (some, q), e0)), (b, m3, hb, (x, m4, hx, (e, r))))) =
    let P : Stmt → Type 0 = λ z. Again (g.stmt_rule f n (inner n)) (stmt_kinds z) (SameStmt z) in
    subst P e (regroup (sym (k.stmt-Forall b.0 b.1 x at)) (left (level some refl (λ at'. next (inner-binder n m0 b m3 hb) (λ c p. made (h m3 x m4 hx) (λ y q. forall-same b c x y at at' p q))))))
stmt-kept n h i ts z rest (inr (inl (at, m0, (a1, m1, ht, (u, m2, (some, q), e0)), (parts, m3, hp, (a4, m4, h4, (e, r)))))) =
    let P : Stmt → Type 0 = λ z. Again (g.stmt_rule f n (inner n)) (stmt_kinds z) (SameStmt z) in
    subst P e (regroup (sym (k.stmt-Block parts)) (right (left (level some refl (λ _. next (keeps-many {r = (inner n).stmt} stmt_kinds stmt_aside (keeps-only (inner n).stmt h) m0 parts m3 hp) (λ ys d. sign refl (λ _. ended
    (a.stmt-Block ys ∙ ap (λ (zs : List Stmt). stmt.Block zs) d ∙ sym (a.stmt-Block parts), a.open-Block ys ∙ sym (a.open-Block parts)))))))))
stmt-kept n h i ts z rest (inr (inr k)) = right (right (i ts z rest k))

-- ---- within any number of levels

record InnerKept (n : ℕ) : Type 0 where
  stmt : KeepsStmt (inner n).stmt
  arms : Keeps (inner n).arms arms_kinds arms_aside

inner-kept : (n : ℕ) → InnerKept n
inner-kept zero = record { stmt = λ ts z rest h. absurd h; arms = λ ts z rest h. absurd h }
inner-kept (suc n) =
    let i = inner-kept n in
    record { stmt = stmt-kept n i.stmt (simple-kept n i.stmt i.arms); arms = arms-kept n i.stmt }

pub simples-kept : (n : ℕ) → KeepsStmt (g.simple f n (inner n))
simples-kept n = let i = inner-kept n in simple-kept n i.stmt i.arms

pub inner-statements : (n : ℕ) → Keeps (inner n).stmt stmt_kinds stmt_aside
inner-statements n = let i = inner-kept n in keeps-only (inner n).stmt i.stmt

pub statements-kept : (n : ℕ) → Keeps (g.stmt_rule f n (inner n)) stmt_kinds stmt_aside
statements-kept n = let i = inner-kept n in keeps-only (g.stmt_rule f n (inner n)) (stmt-kept n i.stmt (simple-kept n i.stmt i.arms))
