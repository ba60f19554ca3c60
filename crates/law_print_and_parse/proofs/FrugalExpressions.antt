-- The canonical tokens of expressions are no more than those that were read.
use Rattle.std.proofs.Common.{◌≡◌, ℕ, ◌+◌, ◌<◌, ◌≤◌, nat_lt, Bool, true, false, List, [], ◌∷◌, ◌++◌, length, map, inl, inr, refl, ap, sym, ◌∙◌, subst, arith}
use Rattle.std.specs.List.{flat_map}
use Rattle.std.proofs.lemmas.Bool.{lt-ltb, le-ltb, ltb-true}
use Rattle.std.proofs.lemmas.List.{length-append}
use Rattle.smv_core.specs.declared.token.TokenKind.{TokenKind}
use Rattle.smv_core.specs.declared.token.TokenKind.TheVariants.{Number}
use Rattle.smv_core.specs.declared.tree.Expr.{Expr}
use Rattle.smv_core.specs.declared.tree.Expr.TheVariants as expr
use Rattle.smv_core.specs.declared.tree.Signed.{Signed}
use Rattle.smv_core.specs.Signs.{open_paren, close_paren, plus, minus, ampersand, bar}
use Rattle.smv_core.specs.Signs as w
use Rattle.smv_core.specs.Notation.{Tokens}
use Rattle.smv_core.specs.Grammar as g
use Rattle.smv_print.specs.Written.{Kinds}
use Rattle.smv_print.specs.Written as s
use Rattle.smv_print.specs.Expressions.{Spelled, spelled, within, binary, plus_or_minus, signed_kinds}
use Rattle.smv_print.specs.Expressions as p
use Rattle.smv_print.proofs.ExpressionLaws.{spelled-And, spelled-Or, spelled-Implies, spelled-Iff, spelled-Modulo, spelled-Sum}
use Rattle.law_print_and_parse.specs.Aside.{expr_aside, signed_aside}
use Rattle.law_print_and_parse.proofs.AsideLaws.{expr-And, expr-Or, expr-Implies, expr-Iff, expr-Sum, expr-Modulo, signed-aside, signed-rolled}
use Rattle.law_print_and_parse.proofs.Levels.{f, inner, rule_at, framed}
use Rattle.law_print_and_parse.proofs.Productions.{twice}
use Rattle.law_print_and_parse.proofs.Frugal.{Short, nil, cat, sign-before, number-before, entry-before, same-kinds, Frugal, Saves, finish, saves-many, saves-tail, after}

-- ---- parentheses

pub fewer : {ks ls : Kinds} {ts rest : Tokens} → length ls ≤ length ks → Short ks ts rest → Short ls ts rest
fewer l h = let k = h.least in record { least = omega arith }

-- nothing more is read
shift : {ks : Kinds} {ts mid rest : Tokens} → Short ks ts mid → Short [] mid rest → Short ks ts rest
shift h q = let k = h.least in let l = q.least in record { least = omega arith }

pub framed-most : (b : Bool) (ks : Kinds) → length (framed b ks) ≤ length (open_paren ∷ ks ++ close_paren ∷ [])
framed-most true ks = omega arith
framed-most false ks = let e : length (ks ++ close_paren ∷ []) ≡ length ks + length (close_paren ∷ []) = length-append ks (close_paren ∷ []) in omega arith

framed-grows : (b c : Bool) (ks : Kinds) → (b ≡ true → c ≡ true) → length (framed b ks) ≤ length (framed c ks)
framed-grows true true ks h = omega arith
framed-grows true false ks h = let e : false ≡ true = h refl in absurd cc
framed-grows false c ks h = go c
  where
    go : (c : Bool) → length ks ≤ length (framed c ks)
    go true = framed-most false ks
    go false = omega arith

within-grows : (a b : ℕ) (x : Spelled) → a ≤ b → length (within a x) ≤ length (within b x)
within-grows a b x l = framed-grows (nat_lt x.binding a) (nat_lt x.binding b) x.bare (λ e. let k : x.binding < a = ltb-true x.binding a e in lt-ltb x.binding b (omega arith))

pub within-is : (wanted : ℕ) (x : Spelled) → wanted ≤ x.binding → within wanted x ≡ x.bare
within-is wanted x l = ap (λ (b : Bool). framed b x.bare) (le-ltb x.binding wanted l)

-- ---- expressions

-- the canonical tokens of an expression depend on nothing but the tree, places aside, and are no more than those that were read where one is wanted that binds so tightly
pub record Fair (wanted : ℕ) (x : Expr) (ts rest : Tokens) : Type 0 where
  pub alike : spelled (expr_aside x) ≡ spelled x
  pub short : Short (within wanted (spelled x)) ts rest

abbrev pub AllFair : ℕ → ℕ → Type 0
AllFair n wanted = (ts : Tokens) (x : Expr) (rest : Tokens) → rule_at wanted n ts x rest → Fair wanted x ts rest

pub ready : {wanted : ℕ} {x z : Expr} {ts mid rest : Tokens} → x ≡ z → mid ≡ rest → Fair wanted x ts mid → Fair wanted z ts rest
ready {wanted} {x} {z} {ts} {mid} {rest} e r h =
    let P : Expr → Type 0 = λ y. Fair wanted y ts rest in
    let Q : Tokens → Type 0 = λ u. Fair wanted x ts u in
    subst P e (subst Q r h)

pub lower : (a b : ℕ) {x : Expr} {ts rest : Tokens} → a ≤ b → Fair b x ts rest → Fair a x ts rest
lower a b {x} l h = record { alike = h.alike; short = fewer (within-grows a b (spelled x) l) h.short }

pub fair-of : (wanted : ℕ) (x : Expr) (a : Spelled) (z : Expr) {ts rest : Tokens} → spelled x ≡ a → expr_aside x ≡ z → spelled z ≡ a → wanted ≤ a.binding → Short a.bare ts rest → Fair wanted x ts rest
fair-of wanted x a z e d c l h = record { alike = ap spelled d ∙ c ∙ sym e; short = same-kinds (sym (within-is wanted a l) ∙ sym (ap (within wanted) e)) h }

abbrev pub bound : ℕ → Kinds → Spelled
bound own ks = record { binding = own; bare = ks }

-- the tokens where one is wanted that binds so tightly
abbrev pub at_least_as : ℕ → Expr → Kinds
at_least_as wanted x = within wanted (spelled x)

pub saves-at : (n wanted : ℕ) → AllFair n wanted → Saves (rule_at wanted n) (at_least_as wanted) expr_aside
saves-at n wanted h ts x rest q = let b = h ts x rest q in record { alike = ap (within wanted) b.alike; short = b.short }

chain-spelled : (own wanted : ℕ) (sign : TokenKind) (make : List Expr → Expr) → ((ps : List Expr) → spelled (make ps) ≡ p.chain own sign wanted (map spelled ps))
    → (ps : List Expr) → spelled (make ps) ≡ bound own (s.separated sign (map (at_least_as wanted) ps))
chain-spelled own wanted sign make law ps = law ps ∙ ap (λ (kss : List Kinds). bound own (s.separated sign kss)) (sym (twice wanted ps))

chain-fair : (own wanted : ℕ) (sign : TokenKind) (make : List Expr → Expr) → ((ps : List Expr) → spelled (make ps) ≡ p.chain own sign wanted (map spelled ps))
    → ((ps : List Expr) → expr_aside (make ps) ≡ make (map expr_aside ps)) → own ≤ wanted → (x : Expr) (more : List Expr) {ts mid rest : Tokens} → Fair wanted x ts mid
    → Frugal (after sign (at_least_as wanted)) (map expr_aside) more mid rest → Fair own (g.chain make x more) ts rest
chain-fair own wanted sign make law aside l x [] h q = lower own wanted l (record { alike = h.alike; short = shift h.short q.short })
chain-fair own wanted sign make law aside l x (y ∷ more) h q =
    fair-of own (make (x ∷ y ∷ more)) (bound own (within wanted (spelled x) ++ after sign (at_least_as wanted) (y ∷ more))) (make (map expr_aside (x ∷ y ∷ more)))
    (chain-spelled own wanted sign make law (x ∷ y ∷ more)) (aside (x ∷ y ∷ more))
    (chain-spelled own wanted sign make law (map expr_aside (x ∷ y ∷ more))
    ∙ ap (λ (u : Spelled). bound own (within wanted u ++ after sign (at_least_as wanted) (map expr_aside (y ∷ more)))) h.alike
    ∙ ap (λ (ks : Kinds). bound own (within wanted (spelled x) ++ ks)) q.alike)
    (omega arith) (cat h.short q.short)

pub conjunctions-fair : (n : ℕ) → AllFair n 5 → AllFair n 4
conjunctions-fair n h ts z rest (x, mid, hx, (more, end, hm, (e, r))) =
    ready e r (chain-fair 4 5 w.ampersand expr.And spelled-And expr-And (omega arith) x more (h ts x mid hx) (saves-tail {r = rule_at 5 n} w.ampersand (at_least_as 5) expr_aside (saves-at n 5 h) mid more end hm))

pub disjunctions-fair : (n : ℕ) → AllFair n 4 → AllFair n 3
disjunctions-fair n h ts z rest (x, mid, hx, (more, end, hm, (e, r))) =
    ready e r (chain-fair 3 4 w.bar expr.Or spelled-Or expr-Or (omega arith) x more (h ts x mid hx) (saves-tail {r = rule_at 4 n} w.bar (at_least_as 4) expr_aside (saves-at n 4 h) mid more end hm))

pub implications-fair : (n : ℕ) → AllFair n 3 → AllFair n 2
implications-fair n h ts z rest (x, mid, hx, (more, end, hm, (e, r))) =
    ready e r (chain-fair 2 3 w.arrow expr.Implies spelled-Implies expr-Implies (omega arith) x more (h ts x mid hx) (saves-tail {r = rule_at 3 n} w.arrow (at_least_as 3) expr_aside (saves-at n 3 h) mid more end hm))

pub equivalences-fair : (n : ℕ) → AllFair n 2 → AllFair n 1
equivalences-fair n h ts z rest (x, mid, hx, inl (at, m1, ht, (y, end, hy, (e, r)))) =
    let b = h ts x mid hx in
    let c = h m1 y end hy in
    ready e r (fair-of 1 (expr.Iff x y) (binary 1 w.double_arrow 2 (spelled x) (spelled y)) (expr.Iff (expr_aside x) (expr_aside y)) (spelled-Iff x y) (expr-Iff x y)
    (spelled-Iff (expr_aside x) (expr_aside y) ∙ ap (λ (u : Spelled). binary 1 w.double_arrow 2 u (spelled (expr_aside y))) b.alike ∙ ap (λ (u : Spelled). binary 1 w.double_arrow 2 (spelled x) u) c.alike)
    (omega arith) (cat b.short (sign-before w.double_arrow at ht c.short)))
equivalences-fair n h ts z rest (x, mid, hx, inr (e, r)) = ready e r (lower 1 2 (omega arith) (h ts x mid hx))

pub remainders-fair : (n : ℕ) → AllFair n 8 → AllFair n 7
remainders-fair n h ts z rest (x, mid, hx, inl (at, m1, ht, (by, end, hn, (e, r)))) =
    let b = h ts x mid hx in
    ready e r (fair-of 7 (expr.Modulo x by.0 by.1) (bound 7 (within 8 (spelled x) ++ w.word_mod ∷ Number by.0 ∷ [])) (expr.Modulo (expr_aside x) by.0 0) (spelled-Modulo x by.0 by.1) (expr-Modulo x by.0 by.1)
    (spelled-Modulo (expr_aside x) by.0 0 ∙ ap (λ (u : Spelled). bound 7 (within 8 u ++ w.word_mod ∷ Number by.0 ∷ [])) b.alike)
    (omega arith) (cat b.short (sign-before w.word_mod at ht (number-before by hn (nil end)))))
remainders-fair n h ts z rest (x, mid, hx, inr (e, r)) = ready e r (lower 7 8 (omega arith) (h ts x mid hx))

saves-signed : (n : ℕ) → AllFair n 9 → Saves (g.signed f n (inner n)) signed_kinds signed_aside
saves-signed n h ts z rest (o, m0, ho, (x, m1, hx, (e, r))) =
    let b = h m0 x m1 hx in
    finish e r (record {
      alike = ap signed_kinds (signed-aside o.0 x) ∙ signed-rolled o.0 (expr_aside x) ∙ ap (λ (u : Spelled). plus_or_minus o.0 ∷ within 9 u) b.alike ∙ sym (signed-rolled o.0 x);
      short = same-kinds (sym (signed-rolled o.0 x)) (entry-before ((plus, false) ∷ (minus, true) ∷ []) o ho b.short);
    })

pub sums-fair : (n : ℕ) → AllFair n 9 → AllFair n 8
sums-fair n h ts z rest (x, mid, hx, (more, end, hm, (e, r))) = ready e r (go more (saves-many {r = g.signed f n (inner n)} signed_kinds signed_aside (saves-signed n h) mid more end hm))
  where
    go : (more : List Signed) → Frugal (flat_map signed_kinds) (map signed_aside) more mid end → Fair 8 (g.sum_of x more) ts end
    go [] q = let b = h ts x mid hx in lower 8 9 (omega arith) (record { alike = b.alike; short = shift b.short q.short })
    go (y ∷ more) q =
        let b = h ts x mid hx in
        fair-of 8 (expr.Sum x (y ∷ more)) (bound 8 (within 9 (spelled x) ++ flat_map signed_kinds (y ∷ more))) (expr.Sum (expr_aside x) (map signed_aside (y ∷ more))) (spelled-Sum x (y ∷ more)) (expr-Sum x (y ∷ more))
        (spelled-Sum (expr_aside x) (map signed_aside (y ∷ more)) ∙ ap (λ (u : Spelled). bound 8 (within 9 u ++ flat_map signed_kinds (map signed_aside (y ∷ more)))) b.alike
        ∙ ap (λ (ks : Kinds). bound 8 (within 9 (spelled x) ++ ks)) q.alike)
        (omega arith) (cat b.short q.short)
