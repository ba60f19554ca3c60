-- The canonical tokens of expressions, within any number of levels, are no more than those that were read.
use Rattle.std.proofs.Common.{◌≡◌, ℕ, zero, suc, nat_lt, false, List, [], ◌∷◌, ◌++◌, Option, Some, map, inl, inr, refl, ap, sym, ◌∙◌, subst, arith}
use Rattle.std.specs.Option.{option_map}
use Rattle.smv_core.specs.declared.token.TokenKind.{TokenKind}
use Rattle.smv_core.specs.declared.token.TokenKind.TheVariants.{Ident, Number}
use Rattle.smv_core.specs.declared.tree.Word.{Word}
use Rattle.smv_core.specs.declared.tree.TypeExpr.{TypeExpr}
use Rattle.smv_core.specs.declared.tree.Expr.{Expr}
use Rattle.smv_core.specs.declared.tree.Expr.TheVariants as expr
use Rattle.smv_core.specs.declared.tree.Part.{Part}
use Rattle.smv_core.specs.declared.tree.Part.TheVariants as part
use Rattle.smv_core.specs.declared.tree.Path.{roll-Path}
use Rattle.smv_core.specs.declared.tree.Op.{Op}
use Rattle.smv_core.specs.declared.tree.Op.TheVariants as op
use Rattle.smv_core.specs.Signs.{open_paren, close_paren, open_bracket, close_bracket, open_brace, close_brace, colon, comma, dot, equal, differ, less, at_most, greater, at_least, ampersand, bar}
use Rattle.smv_core.specs.Signs as w
use Rattle.smv_core.specs.Notation.{Tokens, optional, token, ◌>>◌}
use Rattle.smv_core.specs.Grammar as g
use Rattle.smv_core.specs.Grammar.{named}
use Rattle.smv_print.specs.Written.{Kinds}
use Rattle.smv_print.specs.Types.{type_kinds}
use Rattle.smv_print.specs.Expressions.{Spelled, spelled, within, alone, binary, operator, choice, reduction, comprehension, condition, member_kinds, path_kinds}
use Rattle.smv_print.proofs.ExpressionLaws.{spelled-Number, spelled-Signal, spelled-Not, spelled-Compare, spelled-Within, spelled-Choose, spelled-All, spelled-Any, spelled-List, spelled-Each}
use Rattle.smv_print.proofs.ExpressionLaws as k
use Rattle.law_print_and_parse.specs.Aside.{word_aside, type_aside, expr_aside, member_aside, part_aside, path_aside}
use Rattle.law_print_and_parse.proofs.AsideLaws.{expr-Number, expr-Signal, expr-Not, expr-Compare, expr-Within, expr-Choose, expr-All, expr-Any, expr-List, expr-Each, path-aside}
use Rattle.law_print_and_parse.proofs.AsideLaws as a
use Rattle.law_print_and_parse.proofs.Levels.{f, inner}
use Rattle.law_print_and_parse.proofs.Primaries.{behind, path-of-parts}
use Rattle.law_print_and_parse.proofs.Entries.{AnyOf, an-entry-of}
use Rattle.law_print_and_parse.proofs.Frugal.{Short, nil, cat, sign-before, name-before, number-before, entry-before, opener-before, same-before, same-end, same-kinds, Saves, finish, saves-many, saves-separated, listed}
use Rattle.law_print_and_parse.proofs.FrugalTypes.{span-short, saves-index}
use Rattle.law_print_and_parse.proofs.FrugalExpressions.{fewer, within-is, framed-most, Fair, AllFair, ready, lower, fair-of, bound, conjunctions-fair, disjunctions-fair, implications-fair, equivalences-fair, remainders-fair, sums-fair}

-- what stands inside an opened level
record Inside (n : ℕ) : Type 0 where
  expr : (ts : Tokens) (x : Expr) (rest : Tokens) → (inner n).expr ts x rest → Fair 0 x ts rest
  negation : (ts : Tokens) (x : Expr) (rest : Tokens) → (inner n).negation ts x rest → Fair 5 x ts rest
  member : Saves (inner n).member member_kinds member_aside

expressions-fair : (n : ℕ) → Inside n → AllFair n 1 → AllFair n 0
expressions-fair n i h ts z rest (c, mid, hc, inl (at, m1, ho, (x, m2, hx, (a3, m3, ht, (y, end, hy, (e, r)))))) =
    let b = h ts c mid hc in
    let p = i.expr m1 x m2 hx in
    let q = i.expr m3 y end hy in
    ready e r (fair-of 0 (expr.Choose c x y) (bound 0 (choice (spelled c) (spelled x) (spelled y))) (expr.Choose (expr_aside c) (expr_aside x) (expr_aside y)) (spelled-Choose c x y) (expr-Choose c x y)
    (spelled-Choose (expr_aside c) (expr_aside x) (expr_aside y) ∙ ap (λ (u : Spelled). bound 0 (choice u (spelled (expr_aside x)) (spelled (expr_aside y)))) b.alike
    ∙ ap (λ (u : Spelled). bound 0 (choice (spelled c) u (spelled (expr_aside y)))) p.alike ∙ ap (λ (u : Spelled). bound 0 (choice (spelled c) (spelled x) u)) q.alike)
    (omega arith) (cat (cat b.short (opener-before n w.question at ho p.short)) (sign-before colon a3 ht q.short)))
expressions-fair n i h ts z rest (c, mid, hc, inr (e, r)) = ready e r (lower 0 1 (omega arith) (h ts c mid hc))

negations-fair : (n : ℕ) → Inside n → AllFair n 6 → AllFair n 5
negations-fair n i h ts z rest (inl (at, m1, ho, (x, end, hx, (e, r)))) =
    let b = i.negation m1 x end hx in
    ready e r (fair-of 5 (expr.Not x at) (bound 5 (w.tilde ∷ within 5 (spelled x))) (expr.Not (expr_aside x) 0) (spelled-Not x at) (expr-Not x at)
    (spelled-Not (expr_aside x) 0 ∙ ap (λ (u : Spelled). bound 5 (w.tilde ∷ within 5 u)) b.alike) (omega arith) (opener-before n w.tilde at ho b.short))
negations-fair n i h ts z rest (inr k) = lower 5 6 (omega arith) (h ts z rest k)

-- ---- paths

saves-part : (n : ℕ) → Inside n → Saves (g.part_rule f n (inner n)) behind part_aside
saves-part n i ts z rest (inl (at, m0, ht, (x, m1, hx, (e, r)))) = finish e r (record {
  alike = ap behind (a.part-Field x) ∙ k.part-Field (word_aside x) false ∙ sym (k.part-Field x false);
  short = same-kinds (sym (k.part-Field x false)) (sign-before dot at ht (name-before x hx (nil m1)));
})
saves-part n i ts z rest (inr (at, m0, ho, (x, m1, hx, (a2, m2, hc, (e, r))))) =
    let b = i.expr m0 x m1 hx in
    finish e r (record {
      alike = ap behind (a.part-At x) ∙ k.part-At (expr_aside x) false ∙ ap (λ (u : Spelled). open_bracket ∷ within 0 u ++ close_bracket ∷ []) b.alike ∙ sym (k.part-At x false);
      short = same-kinds (sym (k.part-At x false)) (cat (opener-before n open_bracket at ho b.short) (sign-before close_bracket a2 hc (nil m2)));
    })

pub path-alike : (x : Word) (more : List Part) → path_aside (named x more) ≡ named (word_aside x) (map part_aside more)
path-alike x more = path-aside (part.Field x ∷ more) x.at ∙ ap (λ (q : Part). roll-Path (record { parts = q ∷ map part_aside more; at = 0 })) (a.part-Field x)

path-saved : (n : ℕ) → Inside n → Saves (g.path_rule f n (inner n)) path_kinds path_aside
path-saved n i ts z rest (x, m0, hx, (more, m1, hm, (e, r))) =
    let b = saves-many {r = g.part_rule f n (inner n)} behind part_aside (saves-part n i) m0 more m1 hm in
    finish e r (record {
      alike = ap path_kinds (path-alike x more) ∙ path-of-parts (word_aside x) (map part_aside more) ∙ ap (λ (ks : Kinds). Ident x.name ∷ ks) b.alike ∙ sym (path-of-parts x more);
      short = same-kinds (sym (path-of-parts x more)) (name-before x hx b.short);
    })

-- ---- sets

saves-member : (n : ℕ) → AllFair n 0 → Saves (g.member_rule f n (inner n)) member_kinds member_aside
saves-member n h ts z rest (inl (x, m0, hx, (e, r))) =
    let b = h ts x m0 hx in
    finish e r (record { alike = ap member_kinds (a.member-One x) ∙ k.member-One (expr_aside x) ∙ ap (within 0) b.alike ∙ sym (k.member-One x); short = same-kinds (sym (k.member-One x)) b.short })
saves-member n h ts z rest (inr (x, m0, hx, (e, r))) = finish e r (record {
  alike = ap member_kinds (a.member-Span x.0 x.1) ∙ k.member-Span x.0 0 ∙ sym (k.member-Span x.0 x.1);
  short = same-kinds (sym (k.member-Span x.0 x.1)) (span-short ts x m0 hx);
})

-- the condition of a comprehension
record FairOption (c : Option Expr) (ts rest : Tokens) : Type 0 where
  alike : option_map spelled (option_map expr_aside c) ≡ option_map spelled c
  short : Short (condition (option_map spelled c)) ts rest

options-fair : (n : ℕ) → Inside n → (ts : Tokens) (c : Option Expr) (rest : Tokens) → optional (token comma >> (inner n).expr) ts c rest → FairOption c ts rest
options-fair n i ts c rest (inl (x, mid, (at, m0, ht, hx), (e, r))) =
    let b = i.expr m0 x mid hx in
    let P : Option Expr → Type 0 = λ c. FairOption c ts rest in
    subst P e (record { alike = ap (λ (u : Spelled). let o : Option Spelled = Some u in o) b.alike; short = same-end r (sign-before comma at ht b.short) })
options-fair n i ts c rest (inr (e, r)) = let P : Option Expr → Type 0 = λ c. FairOption c ts rest in subst P e (record { alike = refl; short = same-end r (nil ts) })

each-alike : (v : Word) (over : TypeExpr) (c : Option Expr) → type_kinds (type_aside over) ≡ type_kinds over → option_map spelled (option_map expr_aside c) ≡ option_map spelled c
    → alone (comprehension (word_aside v) (type_aside over) (option_map spelled (option_map expr_aside c))) ≡ alone (comprehension v over (option_map spelled c))
each-alike v over c d e =
    ap (λ (ks : Kinds). alone (open_brace ∷ Ident v.name ∷ colon ∷ Ident v.name ∷ w.word_in ∷ ks ++ condition (option_map spelled (option_map expr_aside c)) ++ close_brace ∷ [])) d
    ∙ ap (λ (o : Option Spelled). alone (comprehension v over o)) e

sets-fair : (n : ℕ) → Inside n → (ts : Tokens) (z : Expr) (rest : Tokens) → g.set f n (inner n) ts z rest → Fair 9 z ts rest
sets-fair n i ts z rest (inl (at, m0, ho, (ms, m1, hm, (a2, m2, hc, (e, r))))) =
    let b = saves-separated {r = (inner n).member} member_kinds member_aside i.member m0 ms m1 hm in
    ready e r (fair-of 9 (expr.List ms at) (alone (open_brace ∷ listed member_kinds ms ++ close_brace ∷ [])) (expr.List (map member_aside ms) 0) (spelled-List ms at) (expr-List ms at)
    (spelled-List (map member_aside ms) 0 ∙ ap (λ (ks : Kinds). alone (open_brace ∷ ks ++ close_brace ∷ [])) b.alike)
    (omega arith) (cat (opener-before n open_brace at ho b.short) (sign-before close_brace a2 hc (nil m2))))
sets-fair n i ts z rest (inr (at, m0, ho, (v, m1, hv, (a2, m2, h2, (v', m3, h3, (a4, m4, h4, (over, m5, h5, (c, m6, h6, (a7, m7, h7, (e, r)))))))))) =
    let b = saves-index m4 over m5 h5 in
    let o = options-fair n i m5 c m6 h6 in
    ready e r (fair-of 9 (expr.Each v over c at) (alone (comprehension v over (option_map spelled c))) (expr.Each (word_aside v) (type_aside over) (option_map expr_aside c) 0) (spelled-Each v over c at) (expr-Each v over c at)
    (spelled-Each (word_aside v) (type_aside over) (option_map expr_aside c) 0 ∙ each-alike v over c b.alike o.alike)
    (omega arith) (cat (cat (opener-before n open_brace at ho (name-before v hv (sign-before colon a2 h2 (same-before v v' h3 (sign-before w.word_in a4 h4 b.short))))) o.short) (sign-before close_brace a7 h7 (nil m7))))

-- ---- primaries

reduction-fair : (make : Expr → Word → TypeExpr → ℕ → Expr) (mark : TokenKind) → ((x : Expr) (v : Word) (over : TypeExpr) (at : ℕ) → spelled (make x v over at) ≡ alone (reduction mark (spelled x) v over))
    → ((x : Expr) (v : Word) (over : TypeExpr) (at : ℕ) → expr_aside (make x v over at) ≡ make (expr_aside x) (word_aside v) (type_aside over) 0)
    → (x : Expr) (v : Word) (over : TypeExpr) (at : ℕ) {ts rest : Tokens} → spelled (expr_aside x) ≡ spelled x → type_kinds (type_aside over) ≡ type_kinds over → Short (reduction mark (spelled x) v over) ts rest
    → Fair 9 (make x v over at) ts rest
reduction-fair make mark law aside x v over at d c h =
    fair-of 9 (make x v over at) (alone (reduction mark (spelled x) v over)) (make (expr_aside x) (word_aside v) (type_aside over) 0) (law x v over at) (aside x v over at)
    (law (expr_aside x) (word_aside v) (type_aside over) 0
    ∙ ap (λ (u : Spelled). alone (mark ∷ open_bracket ∷ within 0 u ++ colon ∷ Ident v.name ∷ w.word_in ∷ type_kinds (type_aside over) ++ close_bracket ∷ [])) d
    ∙ ap (λ (ks : Kinds). alone (mark ∷ open_bracket ∷ within 0 (spelled x) ++ colon ∷ Ident v.name ∷ w.word_in ∷ ks ++ close_bracket ∷ [])) c)
    (omega arith) h

abbrev Reduction : Type 0
Reduction = Expr → Word → TypeExpr → ℕ → Expr

abbrev reductions : List (TokenKind × Reduction)
reductions = (ampersand, expr.All) ∷ (bar, expr.Any) ∷ []

reductions-fair : (n : ℕ) → Inside n → (ts : Tokens) (z : Expr) (rest : Tokens) → g.reduction f n (inner n) ts z rest → Fair 9 z ts rest
reductions-fair n i ts z rest (make, m0, hm, (at, m1, ho, (x, m2, hx, (a3, m3, h3, (v, m4, hv, (a5, m5, h5, (over, m6, h6, (a7, m7, h7, (e, r))))))))) = ready e r (go (an-entry-of reductions ts make m0 hm))
  where
    counted : (mark : TokenKind) → Short (reduction mark (spelled x) v over) ts m7
    counted mark =
        let b = i.expr m1 x m2 hx in
        let c = saves-index m5 over m6 h6 in
        cat (cat (entry-before reductions make hm (opener-before n open_bracket at ho b.short)) (sign-before colon a3 h3 (name-before v hv (sign-before w.word_in a5 h5 c.short)))) (sign-before close_bracket a7 h7 (nil m7))

    go : AnyOf reductions make.0 → Fair 9 (make.0 x v over make.1) ts m7
    go (inl e) =
        let P : Reduction → Type 0 = λ mk. Fair 9 (mk x v over make.1) ts m7 in
        let b = i.expr m1 x m2 hx in
        let c = saves-index m5 over m6 h6 in
        subst P (sym e) (reduction-fair expr.All w.ampersand spelled-All expr-All x v over make.1 b.alike c.alike (counted w.ampersand))
    go (inr (inl e)) =
        let P : Reduction → Type 0 = λ mk. Fair 9 (mk x v over make.1) ts m7 in
        let b = i.expr m1 x m2 hx in
        let c = saves-index m5 over m6 h6 in
        subst P (sym e) (reduction-fair expr.Any w.bar spelled-Any expr-Any x v over make.1 b.alike c.alike (counted w.bar))
    go (inr (inr e)) = absurd e

enclosed-fair : {x : Expr} {ts rest : Tokens} → spelled (expr_aside x) ≡ spelled x → Short (open_paren ∷ within 0 (spelled x) ++ close_paren ∷ []) ts rest → Fair 9 x ts rest
enclosed-fair {x} d h = record {
  alike = d;
  short = fewer (framed-most (nat_lt (spelled x).binding 9) (spelled x).bare) (same-kinds (ap (λ (ks : Kinds). open_paren ∷ ks ++ close_paren ∷ []) (within-is 0 (spelled x) (omega arith))) h);
}

primaries-fair : (n : ℕ) → Inside n → AllFair n 9
primaries-fair n i ts z rest (inl (v, m0, h0, (e, r))) =
    ready e r (fair-of 9 (expr.Number v.0 v.1) (alone (Number v.0 ∷ [])) (expr.Number v.0 0) (spelled-Number v.0 v.1) (expr-Number v.0 v.1) (spelled-Number v.0 0) (omega arith) (number-before v h0 (nil m0)))
primaries-fair n i ts z rest (inr (inl (q, m0, h0, (e, r)))) =
    let b = path-saved n i ts q m0 h0 in
    ready e r (fair-of 9 (expr.Signal q) (alone (path_kinds q)) (expr.Signal (path_aside q)) (spelled-Signal q) (expr-Signal q) (spelled-Signal (path_aside q) ∙ ap alone b.alike) (omega arith) b.short)
primaries-fair n i ts z rest (inr (inr (inl (at, m0, ho, (x, m1, hx, (a2, m2, hc, (e, r))))))) =
    let b = i.expr m0 x m1 hx in
    ready e r (enclosed-fair b.alike (cat (opener-before n open_paren at ho b.short) (sign-before close_paren a2 hc (nil m2))))
primaries-fair n i ts z rest (inr (inr (inr (inl h)))) = sets-fair n i ts z rest h
primaries-fair n i ts z rest (inr (inr (inr (inr h)))) = reductions-fair n i ts z rest h

abbrev operators : List (TokenKind × Op)
operators = (equal, op.Equal) ∷ (differ, op.Differ) ∷ (less, op.Less) ∷ (at_most, op.AtMost) ∷ (greater, op.Greater) ∷ (at_least, op.AtLeast) ∷ []

comparisons-fair : (n : ℕ) → Inside n → AllFair n 7 → AllFair n 6
comparisons-fair n i h ts z rest (x, mid, hx, inl (o, m1, ho, (y, end, hy, (e, r)))) =
    let b = h ts x mid hx in
    let c = h m1 y end hy in
    ready e r (fair-of 6 (expr.Compare o.0 x y) (binary 6 (operator o.0) 7 (spelled x) (spelled y)) (expr.Compare o.0 (expr_aside x) (expr_aside y)) (spelled-Compare o.0 x y) (expr-Compare o.0 x y)
    (spelled-Compare o.0 (expr_aside x) (expr_aside y) ∙ ap (λ (u : Spelled). binary 6 (operator o.0) 7 u (spelled (expr_aside y))) b.alike ∙ ap (λ (u : Spelled). binary 6 (operator o.0) 7 (spelled x) u) c.alike)
    (omega arith) (cat b.short (entry-before operators o ho c.short)))
comparisons-fair n i h ts z rest (x, mid, hx, inr (inl (at, m1, ht, (y, end, hy, (e, r))))) =
    let b = h ts x mid hx in
    let c = sets-fair n i m1 y end hy in
    ready e r (fair-of 6 (expr.Within x y) (bound 6 (within 7 (spelled x) ++ w.word_in ∷ within 9 (spelled y))) (expr.Within (expr_aside x) (expr_aside y)) (spelled-Within x y) (expr-Within x y)
    (spelled-Within (expr_aside x) (expr_aside y) ∙ ap (λ (u : Spelled). bound 6 (within 7 u ++ w.word_in ∷ within 9 (spelled (expr_aside y)))) b.alike
    ∙ ap (λ (u : Spelled). bound 6 (within 7 (spelled x) ++ w.word_in ∷ within 9 u)) c.alike)
    (omega arith) (cat b.short (sign-before w.word_in at ht c.short)))
comparisons-fair n i h ts z rest (x, mid, hx, inr (inr (e, r))) = ready e r (lower 6 7 (omega arith) (h ts x mid hx))

-- ---- within any number of levels

negations-within : (n : ℕ) → Inside n → AllFair n 5
negations-within n i = negations-fair n i (comparisons-fair n i (remainders-fair n (sums-fair n (primaries-fair n i))))

expressions-within : (n : ℕ) → Inside n → AllFair n 0
expressions-within n i = expressions-fair n i (equivalences-fair n (implications-fair n (disjunctions-fair n (conjunctions-fair n (negations-within n i)))))

insides : (n : ℕ) → Inside n
insides zero = record { expr = λ ts x rest h. absurd h; negation = λ ts x rest h. absurd h; member = λ ts x rest h. absurd h }
insides (suc n) =
    let i = insides n in
    record { expr = expressions-within n i; negation = negations-within n i; member = saves-member n (expressions-within n i) }

pub expression-fair : (n : ℕ) → AllFair n 0
expression-fair n = expressions-within n (insides n)

pub sum-fair : (n : ℕ) → AllFair n 8
sum-fair n = sums-fair n (primaries-fair n (insides n))

pub saves-path : (n : ℕ) → Saves (g.path_rule f n (inner n)) path_kinds path_aside
saves-path n = path-saved n (insides n)
