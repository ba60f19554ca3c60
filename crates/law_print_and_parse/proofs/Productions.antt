-- What each production of expressions is made of is read again from its canonical tokens.
use Rattle.std.proofs.Common.{◌≡◌, ℕ, suc, Bool, true, false, List, [], ◌∷◌, ◌++◌, map, refl, ap, sym, ◌∙◌, append_assoc, arith}
use Rattle.std.specs.List.{flat_map}
use Rattle.smv_core.specs.declared.token.TokenKind.{TokenKind}
use Rattle.smv_core.specs.declared.token.TokenKind.TheVariants.{Number}
use Rattle.smv_core.specs.declared.tree.Expr.{Expr}
use Rattle.smv_core.specs.declared.tree.Expr.TheVariants as expr
use Rattle.smv_core.specs.declared.tree.Signed.{Signed, roll-Signed}
use Rattle.smv_core.specs.declared.tree.Op.{Op}
use Rattle.smv_core.specs.declared.tree.Op.TheVariants as op
use Rattle.smv_core.specs.Signs.{colon, equal, differ, less, at_most, greater, at_least, plus, minus, ampersand, bar}
use Rattle.smv_core.specs.Signs as w
use Rattle.smv_core.specs.Notation.{Rule, many, one_of, token, same_kind, ◌>>◌}
use Rattle.smv_core.specs.Grammar as g
use Rattle.smv_print.specs.Written.{Kinds, preceded}
use Rattle.smv_print.specs.Written as s
use Rattle.smv_print.specs.Expressions.{spelled, within, alone, binary, operator, plus_or_minus, choice, signed_kinds}
use Rattle.smv_print.specs.Expressions as p
use Rattle.smv_print.proofs.ExpressionLaws.{spelled-Number, spelled-Not, spelled-And, spelled-Or, spelled-Implies, spelled-Iff, spelled-Compare, spelled-Modulo, spelled-Choose, spelled-Sum}
use Rattle.law_print_and_parse.specs.Aside.{expr_aside, signed_aside}
use Rattle.law_print_and_parse.proofs.AsideLaws.{expr-Number, expr-Not, expr-And, expr-Or, expr-Implies, expr-Iff, expr-Compare, expr-Sum, expr-Modulo, expr-Choose, signed-aside, signed-rolled}
use Rattle.law_print_and_parse.proofs.Again.{Again, Every, next, made, left, regroup, sign, level, a-number, an-entry}
use Rattle.law_print_and_parse.proofs.Keeps.{tail-again}
use Rattle.law_print_and_parse.proofs.Levels.{f, inner, SameExpr, rule_at, At, Bare, bare-of}

-- ---- chains and pairs

pub number-bare : (m value at : ℕ) → Bare m (expr.Number value at)
number-bare m value at = bare-of m (expr.Number value at) (alone (Number value ∷ [])) (spelled-Number value at)
    (left (made (a-number value) (λ y e. expr-Number y.0 y.1 ∙ ap (λ (v : ℕ). expr.Number v 0) e ∙ sym (expr-Number value at))))

pub iff-bare : (m : ℕ) (x y : Expr) → At 2 m x → At 2 m y → Bare m (expr.Iff x y)
iff-bare m x y h k = bare-of m (expr.Iff x y) (binary 1 w.double_arrow 2 (spelled x) (spelled y)) (spelled-Iff x y)
    (next h (λ u d. left (sign refl (λ _. made k (λ v e.
    expr-Iff u v ∙ ap (λ (z : Expr). expr.Iff z (expr_aside v)) d ∙ ap (λ (z : Expr). expr.Iff (expr_aside x) z) e ∙ sym (expr-Iff x y))))))

pub not-bare : (m : ℕ) (x : Expr) (at : ℕ) → At 5 m x → Bare (suc m) (expr.Not x at)
not-bare m x at h = bare-of (suc m) (expr.Not x at) (record { binding = 5; bare = w.tilde ∷ within 5 (spelled x) }) (spelled-Not x at)
    (left (level (omega arith) refl (λ at'. made h (λ u d. expr-Not u at' ∙ ap (λ (z : Expr). expr.Not z 0) d ∙ sym (expr-Not x at)))))

-- a list of one at least is no list of none
chain-same : (make : List Expr → Expr) → ((parts : List Expr) → expr_aside (make parts) ≡ make (map expr_aside parts)) → (u x y : Expr) (vs more : List Expr)
    → expr_aside u ≡ expr_aside x → map expr_aside vs ≡ map expr_aside (y ∷ more) → expr_aside (g.chain make u vs) ≡ expr_aside (make (x ∷ y ∷ more))
chain-same make law u x y [] more d e = absurd cc
chain-same make law u x y (v ∷ vs) more d e =
    law (u ∷ v ∷ vs) ∙ ap (λ (z : Expr). make (z ∷ map expr_aside (v ∷ vs))) d ∙ ap (λ (zs : List Expr). make (expr_aside x ∷ zs)) e ∙ sym (law (x ∷ y ∷ more))

pub twice : (wanted : ℕ) (xs : List Expr) → map (λ x. within wanted (spelled x)) xs ≡ map (within wanted) (map spelled xs)
twice wanted [] = refl
twice wanted (x ∷ xs) = ap (λ (kss : List Kinds). within wanted (spelled x) ∷ kss) (twice wanted xs)

-- X sign X { sign X }
chain-again : (R : Rule Expr) (k : TokenKind) (wanted : ℕ) (make : List Expr → Expr) → same_kind k k ≡ true → ((parts : List Expr) → expr_aside (make parts) ≡ make (map expr_aside parts)) → (x y : Expr) (more : List Expr)
    → Every (λ z. Again R (within wanted (spelled z)) (SameExpr z)) (x ∷ y ∷ more)
    → Again (g.chained f 0 (inner 0) k make R) (s.separated k (map (within wanted) (map spelled (x ∷ y ∷ more)))) (SameExpr (make (x ∷ y ∷ more)))
chain-again R k wanted make same law x y more every =
    let q : Again (many (token k >> R)) (preceded k (map (λ z. within wanted (spelled z)) (y ∷ more))) (λ vs. map expr_aside vs ≡ map expr_aside (y ∷ more)) =
    tail-again {r = R} k same (λ z. within wanted (spelled z)) expr_aside (y ∷ more) every.1 in
    next every.0 (λ u d. made (regroup (ap (λ (kss : List Kinds). preceded k kss) (twice wanted (y ∷ more))) q) (λ vs e. chain-same make law u x y vs more d e))

pub and-bare : (m : ℕ) (x y : Expr) (more : List Expr) → Every (At 5 m) (x ∷ y ∷ more) → Bare m (expr.And (x ∷ y ∷ more))
and-bare m x y more every = bare-of m (expr.And (x ∷ y ∷ more)) (p.chain 4 w.ampersand 5 (map spelled (x ∷ y ∷ more))) (spelled-And (x ∷ y ∷ more))
    (chain-again (rule_at 5 m) w.ampersand 5 expr.And refl expr-And x y more every)

pub or-bare : (m : ℕ) (x y : Expr) (more : List Expr) → Every (At 4 m) (x ∷ y ∷ more) → Bare m (expr.Or (x ∷ y ∷ more))
or-bare m x y more every = bare-of m (expr.Or (x ∷ y ∷ more)) (p.chain 3 w.bar 4 (map spelled (x ∷ y ∷ more))) (spelled-Or (x ∷ y ∷ more))
    (chain-again (rule_at 4 m) w.bar 4 expr.Or refl expr-Or x y more every)

pub implies-bare : (m : ℕ) (x y : Expr) (more : List Expr) → Every (At 3 m) (x ∷ y ∷ more) → Bare m (expr.Implies (x ∷ y ∷ more))
implies-bare m x y more every = bare-of m (expr.Implies (x ∷ y ∷ more)) (p.chain 2 w.arrow 3 (map spelled (x ∷ y ∷ more))) (spelled-Implies (x ∷ y ∷ more))
    (chain-again (rule_at 3 m) w.arrow 3 expr.Implies refl expr-Implies x y more every)

pub choose-bare : (m : ℕ) (c x y : Expr) → At 1 (suc m) c → At 0 m x → At 0 m y → Bare (suc m) (expr.Choose c x y)
choose-bare m c x y h k l = bare-of (suc m) (expr.Choose c x y) (record { binding = 0; bare = choice (spelled c) (spelled x) (spelled y) }) (spelled-Choose c x y)
    (regroup (sym (append_assoc (within 1 (spelled c)) (w.question ∷ within 0 (spelled x)) (colon ∷ within 0 (spelled y))))
    (next h (λ t b. left (level (omega arith) refl (λ _. next k (λ u d. sign refl (λ _. made l (λ v e.
    expr-Choose t u v ∙ ap (λ (z : Expr). expr.Choose z (expr_aside u) (expr_aside v)) b ∙ ap (λ (z : Expr). expr.Choose (expr_aside c) z (expr_aside v)) d
    ∙ ap (λ (z : Expr). expr.Choose (expr_aside c) (expr_aside x) z) e ∙ sym (expr-Choose c x y)))))))))

pub modulo-bare : (m : ℕ) (x : Expr) (by at : ℕ) → At 8 m x → Bare m (expr.Modulo x by at)
modulo-bare m x by at h = bare-of m (expr.Modulo x by at) (record { binding = 7; bare = within 8 (spelled x) ++ w.word_mod ∷ Number by ∷ [] }) (spelled-Modulo x by at)
    (next h (λ u d. left (sign refl (λ _. made (a-number by) (λ v e.
    expr-Modulo u v.0 v.1 ∙ ap (λ (z : Expr). expr.Modulo z v.0 0) d ∙ ap (λ (z : ℕ). expr.Modulo (expr_aside x) z 0) e ∙ sym (expr-Modulo x by at))))))

abbrev operators : List (TokenKind × Op)
operators = (equal, op.Equal) ∷ (differ, op.Differ) ∷ (less, op.Less) ∷ (at_most, op.AtMost) ∷ (greater, op.Greater) ∷ (at_least, op.AtLeast) ∷ []

operator-again : (o : Op) → Again (one_of operators) (operator o ∷ []) (λ y. y.0 ≡ o)
operator-again op.Equal = an-entry operators refl
operator-again op.Differ = an-entry operators refl
operator-again op.Less = an-entry operators refl
operator-again op.AtMost = an-entry operators refl
operator-again op.Greater = an-entry operators refl
operator-again op.AtLeast = an-entry operators refl

pub compare-bare : (m : ℕ) (o : Op) (x y : Expr) → At 7 m x → At 7 m y → Bare m (expr.Compare o x y)
compare-bare m o x y h k = bare-of m (expr.Compare o x y) (binary 6 (operator o) 7 (spelled x) (spelled y)) (spelled-Compare o x y)
    (next h (λ u d. left (next (operator-again o) (λ q b. made k (λ v e.
    expr-Compare q.0 u v ∙ ap (λ (z : Op). expr.Compare z (expr_aside u) (expr_aside v)) b ∙ ap (λ (z : Expr). expr.Compare o z (expr_aside v)) d
    ∙ ap (λ (z : Expr). expr.Compare o (expr_aside x) z) e ∙ sym (expr-Compare o x y))))))

abbrev signs : List (TokenKind × Bool)
signs = (plus, false) ∷ (minus, true) ∷ []

sign-again : (minus' : Bool) → Again (one_of signs) (plus_or_minus minus' ∷ []) (λ y. y.0 ≡ minus')
sign-again true = an-entry signs refl
sign-again false = an-entry signs refl

abbrev pub SameSigned : Signed → Signed → Type 0
SameSigned x y = signed_aside y ≡ signed_aside x

pub signed-again : (m : ℕ) (minus' : Bool) (x : Expr) → At 9 m x → Again (g.signed f m (inner m)) (signed_kinds (roll-Signed (record { minus = minus'; of = x }))) (SameSigned (roll-Signed (record { minus = minus'; of = x })))
signed-again m minus' x h = regroup (sym (signed-rolled minus' x)) (next (sign-again minus') (λ q b. made h (λ u d.
    signed-aside q.0 u ∙ ap (λ (z : Bool). roll-Signed (record { minus = z; of = expr_aside u })) b ∙ ap (λ (z : Expr). roll-Signed (record { minus = minus'; of = z })) d ∙ sym (signed-aside minus' x))))

sum-same : (u x : Expr) (y : Signed) (vs more : List Signed) → expr_aside u ≡ expr_aside x → map signed_aside vs ≡ map signed_aside (y ∷ more)
    → expr_aside (g.sum_of u vs) ≡ expr_aside (expr.Sum x (y ∷ more))
sum-same u x y [] more d e = absurd cc
sum-same u x y (v ∷ vs) more d e =
    expr-Sum u (v ∷ vs) ∙ ap (λ (z : Expr). expr.Sum z (map signed_aside (v ∷ vs))) d ∙ ap (λ (zs : List Signed). expr.Sum (expr_aside x) zs) e ∙ sym (expr-Sum x (y ∷ more))

pub sum-bare : (m : ℕ) (x : Expr) (y : Signed) (more : List Signed) → At 9 m x → Again (many (g.signed f m (inner m))) (flat_map signed_kinds (y ∷ more)) (λ vs. map signed_aside vs ≡ map signed_aside (y ∷ more))
    → Bare m (expr.Sum x (y ∷ more))
sum-bare m x y more h k = bare-of m (expr.Sum x (y ∷ more)) (record { binding = 8; bare = within 9 (spelled x) ++ flat_map signed_kinds (y ∷ more) }) (spelled-Sum x (y ∷ more))
    (next h (λ u d. made k (λ vs e. sum-same u x y vs more d e)))
