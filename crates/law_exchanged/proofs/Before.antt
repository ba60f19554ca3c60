-- An expression that is spelled alone is spelled before anything, and none is spelled by no token.
use Rattle.std.proofs.Common.{◌≡◌, ◌≤◌, ℕ, [], ◌++◌, refl, sym, ap, ◌∙◌, subst, arith}
use Rattle.std.proofs.lemmas.List.{append-nil, append_cancel_right}
use Rattle.smv_core.specs.declared.tree.Expr.{Expr}
use Rattle.smv_core.specs.Notation.{Tokens}
use Rattle.smv_core.specs.Grammar as g
use Rattle.law_grammar.specs.Laws.{SpellsExpr}
use Rattle.law_grammar.specs.Expressions as p
use Rattle.law_grammar.proofs.Expressions.{At, expressions, expr-begins}
use Rattle.law_grammar.proofs.One.{all-read}
use Rattle.law_places.specs.Placeless.{placeless}
use Rattle.law_spelled_alike.specs.Local.{kinds_of}
use Rattle.law_spelled_alike.proofs.Plain.{same-expression}

-- these tokens spell the expression, and those come after it
abbrev pub SpellsUpTo : ℕ → Tokens → Expr → Tokens → Type 0
SpellsUpTo n ts x rest = g.expr_rule (λ at. 0) n (g.below (λ at. 0) n) (ts ++ rest) x rest

pub spelled-before : (n m : ℕ) → n ≤ m → (ts : Tokens) (x : Expr) → SpellsExpr n ts x → (rest : Tokens) → SpellsUpTo m ts x rest
spelled-before n m le ts x h rest =
    let read = all-read (At g.expr_rule) (λ k. p.read_expr k (p.expr_readers k)) _ (λ k. (expressions k).law tt) (λ a. refl) n n ts x (omega arith) h in
    let u = ((expressions n).law tt).reads ts x [] read in
    subst (λ z. SpellsUpTo m z x rest) (sym (u.split ∙ append-nil u.front)) (u.spelled (λ at. 0) m (λ i. omega (arith, le)) rest)

pub more-levels : (n m : ℕ) → n ≤ m → (ts : Tokens) (x : Expr) → SpellsExpr n ts x → SpellsExpr m ts x
more-levels n m le ts x h = subst (λ z. g.expr_rule (λ at. 0) m (g.below (λ at. 0) m) z x []) (append-nil ts) (spelled-before n m le ts x h [])

-- what is spelled before some tokens is spelled alone, places aside
pub spelled-alone : (n : ℕ) (ts behind : Tokens) (x : Expr) → SpellsUpTo n ts x behind → (y : Expr) × SpellsExpr n ts y × (placeless x ≡ placeless y)
spelled-alone n ts behind x h =
    let u = same-expression (λ k. Unit {0}) (λ k q. tt) n n (omega arith) (ts ++ behind) x behind h in
    let same : ts ≡ u.front = append_cancel_right ts u.front behind u.split in
    let v = u.again ts [] (ap kinds_of same) in
    (v.0, subst (λ z. g.expr_rule (λ at. 0) n (g.below (λ at. 0) n) z v.0 []) (append-nil ts) v.1, v.2)

pub no-empty : (n : ℕ) (x : Expr) → SpellsExpr n [] x → ⊥
no-empty n x h = let e = expr-begins.holds (λ at. 0) n [] x [] h in absurd (cc (e))
