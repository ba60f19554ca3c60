-- What the rules of statements spell is spelled again.
use Rattle.std.proofs.Common.{◌≡◌, ℕ, zero, suc, List, [], ◌∷◌, ◌++◌, inl, inr, refl, ap, sym, ◌∙◌, subst, append_assoc, arith}
use Rattle.smv_core.specs.declared.token.TokenKind.{TokenKind}
use Rattle.smv_core.specs.declared.token.TokenKind.TheVariants.{Ident}
use Rattle.smv_core.specs.declared.tree.Word.{Word}
use Rattle.smv_core.specs.declared.tree.TypeExpr.{TypeExpr}
use Rattle.smv_core.specs.declared.tree.Expr.{Expr}
use Rattle.smv_core.specs.declared.tree.Expr.TheVariants as expr
use Rattle.smv_core.specs.declared.tree.Path.{Path, out-Path}
use Rattle.smv_core.specs.declared.tree.Kind.{Kind}
use Rattle.smv_core.specs.declared.tree.Kind.TheVariants as kind
use Rattle.smv_core.specs.declared.tree.Stmt.{Stmt}
use Rattle.smv_core.specs.declared.tree.Stmt.TheVariants as stmt
use Rattle.smv_core.specs.Signs.{open_paren, close_paren, semicolon, becomes}
use Rattle.smv_core.specs.Signs as w
use Rattle.smv_core.specs.OpenIf.{ends_in_open_if}
use Rattle.smv_core.specs.Notation.{Tokens, Rule, one_of}
use Rattle.smv_core.specs.Grammar as g
use Rattle.smv_core.specs.Grammar.{named}
use Rattle.smv_print.specs.Written.{Kinds}
use Rattle.smv_print.specs.Types.{type_kinds}
use Rattle.smv_print.specs.Expressions.{within, expr_kinds, path_kinds}
use Rattle.smv_print.specs.Statements.{stmt_kinds, target}
use Rattle.smv_print.proofs.ExpressionLaws.{spelled-Number, spelled-Signal}
use Rattle.smv_print.proofs.StatementLaws as k
use Rattle.law_print_and_parse.specs.Aside.{word_aside, type_aside, expr_aside, path_aside, stmt_aside}
use Rattle.law_print_and_parse.proofs.AsideLaws.{expr-Number, expr-Signal}
use Rattle.law_print_and_parse.proofs.AsideStatements as a
use Rattle.law_print_and_parse.proofs.Again.{Again, next, made, ended, left, right, regroup, weaker, sign, level, a-number, an-entry}
use Rattle.law_print_and_parse.proofs.Keeps.{Keeps}
use Rattle.law_print_and_parse.proofs.Types.{name-again, keeps-index}
use Rattle.law_print_and_parse.proofs.Levels.{f, inner, SameExpr}
use Rattle.law_print_and_parse.proofs.Primaries.{SamePath, path-of-parts, named-same}
use Rattle.law_print_and_parse.proofs.Entries.{AnyOf, an-entry-of}
use Rattle.law_print_and_parse.proofs.Within.{expression-again, path-kept}

-- ---- labels, conditions, binders and values

number-label : (value at : ℕ) → Again g.label (expr_kinds (expr.Number value at)) (SameExpr (expr.Number value at))
number-label value at = regroup (sym (ap (within 0) (spelled-Number value at)))
    (left (made (a-number value) (λ y e. expr-Number y.0 y.1 ∙ ap (λ (v : ℕ). expr.Number v 0) e ∙ sym (expr-Number value at))))

name-label : (x : Word) → Again g.label (expr_kinds (expr.Signal (named x []))) (SameExpr (expr.Signal (named x [])))
name-label x = regroup (sym (ap (within 0) (spelled-Signal (named x [])) ∙ path-of-parts x []))
    (right (made (name-again x) (λ y e. expr-Signal (named y []) ∙ ap (λ (z : Path). expr.Signal z) (named-same x y [] [] e refl) ∙ sym (expr-Signal (named x [])))))

pub keeps-label : Keeps g.label expr_kinds expr_aside
keeps-label ts z rest (inl (k, m0, h, (e, r))) = let P : Expr → Type 0 = λ z. Again g.label (expr_kinds z) (SameExpr z) in subst P e (number-label k.0 k.1)
keeps-label ts z rest (inr (x, m0, h, (e, r))) = let P : Expr → Type 0 = λ z. Again g.label (expr_kinds z) (SameExpr z) in subst P e (name-label x)

-- '(' Expr ')'
abbrev pub condition_kinds : Expr → Kinds
condition_kinds c = open_paren ∷ expr_kinds c ++ close_paren ∷ []

pub keeps-condition : (n : ℕ) → Keeps (g.condition_rule f n (inner n)) condition_kinds expr_aside
keeps-condition zero ts z rest (at, m0, ho, (x, m1, hx, q)) = absurd hx
keeps-condition (suc n) ts z rest (at, m0, ho, (x, m1, hx, (a2, m2, h2, (e, r)))) =
    let P : Expr → Type 0 = λ z. Again (g.condition_rule f (suc n) (inner (suc n))) (condition_kinds z) (SameExpr z) in
    subst P e (level (omega arith) refl (λ _. next (expression-again n m0 x m1 hx) (λ u d. sign refl (λ _. ended d))))

abbrev pub Bound : Type 0
Bound = Word × TypeExpr

abbrev pub binder_aside : Bound → Bound
binder_aside b = (word_aside b.0, type_aside b.1)

-- '(' name 'in' Index ')'
abbrev pub binder_kinds : Bound → Kinds
binder_kinds b = open_paren ∷ Ident b.0.name ∷ w.word_in ∷ type_kinds b.1 ++ close_paren ∷ []

pub keeps-binder : (n : ℕ) → Keeps (g.binder_rule f n (inner n)) binder_kinds binder_aside
keeps-binder n ts z rest (at, m0, (a1, m1, ht, (u, m2, (some, q), e0)), (x, m3, hx, (a4, m4, h4, (over, m5, h5, (a6, m6, h6, (e, r)))))) =
    let P : Bound → Type 0 = λ z. Again (g.binder_rule f n (inner n)) (binder_kinds z) (λ y. binder_aside y ≡ binder_aside z) in
    subst P e (level some refl (λ _. next (name-again x) (λ y d. sign refl (λ _. next (keeps-index m4 over m5 h5) (λ v p. sign refl (λ _. ended
    (ap (λ (z : Word). let b : Bound = (z, type_aside v) in b) d ∙ ap (λ (z : TypeExpr). let b : Bound = (word_aside x, z) in b) p)))))))

-- ':=' Expr ';'
abbrev pub value_kinds : Expr → Kinds
value_kinds x = becomes ∷ expr_kinds x ++ semicolon ∷ []

keeps-value : (n : ℕ) → Keeps (g.value f n (inner n)) value_kinds expr_aside
keeps-value n ts z rest (a0, m0, h0, (x, m1, hx, (a2, m2, h2, (e, r)))) =
    let P : Expr → Type 0 = λ z. Again (g.value f n (inner n)) (value_kinds z) (SameExpr z) in
    subst P e (sign refl (λ _. next (expression-again n m0 x m1 hx) (λ u d. sign refl (λ _. ended d))))

-- ---- assignments

-- the same statement, places aside, which ends as before
abbrev pub SameStmt : Stmt → Stmt → Type 0
SameStmt x y = (stmt_aside y ≡ stmt_aside x) × (ends_in_open_if y ≡ ends_in_open_if x)

abbrev pub KeepsStmt : Rule Stmt → Type 0
KeepsStmt r = (ts : Tokens) (z : Stmt) (rest : Tokens) → r ts z rest → Again r (stmt_kinds z) (SameStmt z)

pub keeps-only : (r : Rule Stmt) → KeepsStmt r → Keeps r stmt_kinds stmt_aside
keeps-only r h ts z rest k = weaker (h ts z rest k) (λ y e. e.0)

assign-same : (c k : Kind) (p q : Path) (x y : Expr) (at at' : ℕ) → k ≡ c → SamePath p q → SameExpr x y → SameStmt (stmt.Assign c p x at) (stmt.Assign k q y at')
assign-same c k p q x y at at' b d e = (
  a.stmt-Assign k q y at' ∙ ap (λ (z : Kind). stmt.Assign z (path_aside q) (expr_aside y) 0) b ∙ ap (λ (z : Path). stmt.Assign c z (expr_aside y) 0) d
      ∙ ap (λ (z : Expr). stmt.Assign c (path_aside p) z 0) e ∙ sym (a.stmt-Assign c p x at),
  a.open-Assign k q y at' ∙ sym (a.open-Assign c p x at),
)

pub assignment-kept : (n : ℕ) → KeepsStmt (g.assignment f n (inner n))
assignment-kept n ts z rest (p, m0, hp, (x, m1, hx, (e, r))) =
    let P : Stmt → Type 0 = λ z. Again (g.assignment f n (inner n)) (stmt_kinds z) (SameStmt z) in
    subst P e (regroup (sym (k.stmt-Assign kind.Comb p x (out-Path p).at ∙ append_assoc (path_kinds p) (becomes ∷ expr_kinds x) (semicolon ∷ [])))
    (next (path-kept n ts p m0 hp) (λ q d. made (keeps-value n m0 x m1 hx) (λ y b. assign-same kind.Comb kind.Comb p q x y (out-Path p).at (out-Path q).at refl d b))))

abbrev pub timings : List (TokenKind × Kind)
timings = (w.word_init, kind.Init) ∷ (w.word_next, kind.Next) ∷ []

-- 'init' or 'next' with '(' Path ')'
timed-again : (n : ℕ) (mark : TokenKind) (c : Kind) (p : Path) (x : Expr) (at : ℕ) → target c (path_kinds p) ≡ mark ∷ open_paren ∷ path_kinds p ++ close_paren ∷ []
    → Again (one_of timings) (mark ∷ []) (λ y. y.0 ≡ c) → Again (inner (suc n)).path (path_kinds p) (SamePath p) → Again (g.value f (suc n) (inner (suc n))) (value_kinds x) (SameExpr x)
    → Again (g.timed f (suc n) (inner (suc n))) (stmt_kinds (stmt.Assign c p x at)) (SameStmt (stmt.Assign c p x at))
timed-again n mark c p x at t entry h q =
    regroup (sym (k.stmt-Assign c p x at ∙ ap (λ (ks : Kinds). ks ++ becomes ∷ expr_kinds x ++ semicolon ∷ []) t
    ∙ append_assoc (mark ∷ open_paren ∷ path_kinds p ++ close_paren ∷ []) (becomes ∷ expr_kinds x) (semicolon ∷ [])
    ∙ append_assoc (mark ∷ open_paren ∷ path_kinds p) (close_paren ∷ []) (value_kinds x)))
    (next entry (λ c' b. level (omega arith) refl (λ _. next h (λ y d. sign refl (λ _. made q (λ v e. assign-same c c'.0 p y x v at c'.1 b d e))))))

pub timed-kept : (n : ℕ) → KeepsStmt (g.timed f n (inner n))
timed-kept zero ts z rest (c, m0, hc, (a1, m1, h1, (p, m2, hp, q))) = absurd hp
timed-kept (suc n) ts z rest (c, m0, hc, (a1, m1, h1, (p, m2, hp, (a3, m3, h3, (x, m4, hx, (e, r)))))) =
    let P : Stmt → Type 0 = λ z. Again (g.timed f (suc n) (inner (suc n))) (stmt_kinds z) (SameStmt z) in
    subst P e (go (an-entry-of timings ts c m0 hc))
  where
    go : AnyOf timings c.0 → Again (g.timed f (suc n) (inner (suc n))) (stmt_kinds (stmt.Assign c.0 p x c.1)) (SameStmt (stmt.Assign c.0 p x c.1))
    go (inl e) = let P : Kind → Type 0 = λ z. Again (g.timed f (suc n) (inner (suc n))) (stmt_kinds (stmt.Assign z p x c.1)) (SameStmt (stmt.Assign z p x c.1)) in
        subst P (sym e) (timed-again n w.word_init kind.Init p x c.1 refl (an-entry timings refl) (path-kept n m1 p m2 hp) (keeps-value (suc n) m3 x m4 hx))
    go (inr (inl e)) = let P : Kind → Type 0 = λ z. Again (g.timed f (suc n) (inner (suc n))) (stmt_kinds (stmt.Assign z p x c.1)) (SameStmt (stmt.Assign z p x c.1)) in
        subst P (sym e) (timed-again n w.word_next kind.Next p x c.1 refl (an-entry timings refl) (path-kept n m1 p m2 hp) (keeps-value (suc n) m3 x m4 hx))
    go (inr (inr e)) = absurd e
