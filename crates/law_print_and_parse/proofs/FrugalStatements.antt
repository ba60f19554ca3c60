-- The canonical tokens of statements are no more than those that were read.
use Rattle.std.proofs.Common.{◌≡◌, ℕ, zero, suc, Bool, true, false, List, [], ◌∷◌, ◌++◌, Option, map, inl, inr, refl, ap, sym, ◌∙◌, subst, append_assoc}
use Rattle.std.specs.List.{flat_map}
use Rattle.std.specs.Option.{option_map}
use Rattle.smv_core.specs.declared.token.TokenKind.{TokenKind}
use Rattle.smv_core.specs.declared.token.TokenKind.TheVariants.{Ident}
use Rattle.smv_core.specs.declared.tree.Word.{Word}
use Rattle.smv_core.specs.declared.tree.Expr.{Expr}
use Rattle.smv_core.specs.declared.tree.Expr.TheVariants as expr
use Rattle.smv_core.specs.declared.tree.Path.{Path, out-Path}
use Rattle.smv_core.specs.declared.tree.Kind.{Kind}
use Rattle.smv_core.specs.declared.tree.Kind.TheVariants as kind
use Rattle.smv_core.specs.declared.tree.Stmt.{Stmt}
use Rattle.smv_core.specs.declared.tree.Stmt.TheVariants as stmt
use Rattle.smv_core.specs.Signs.{open_paren, close_paren, open_brace, close_brace, colon, semicolon, becomes, equal, less, at_most, plus}
use Rattle.smv_core.specs.Signs as w
use Rattle.smv_core.specs.Notation.{Tokens, optional}
use Rattle.smv_core.specs.Grammar as g
use Rattle.smv_core.specs.Grammar.{named}
use Rattle.smv_print.specs.Written.{Kinds}
use Rattle.smv_print.specs.Expressions.{spelled, within, alone, expr_kinds, path_kinds}
use Rattle.smv_print.specs.Statements.{stmt_kinds, arm_kinds, target, binder, otherwise, other_arm}
use Rattle.smv_print.proofs.ExpressionLaws.{spelled-Number, spelled-Signal}
use Rattle.smv_print.proofs.StatementLaws as k
use Rattle.law_print_and_parse.specs.Aside.{word_aside, type_aside, expr_aside, path_aside, stmt_aside, arm_aside}
use Rattle.law_print_and_parse.proofs.AsideLaws.{expr-Number, expr-Signal}
use Rattle.law_print_and_parse.proofs.AsideStatements as a
use Rattle.law_print_and_parse.proofs.Levels.{f, inner}
use Rattle.law_print_and_parse.proofs.Primaries.{path-of-parts}
use Rattle.law_print_and_parse.proofs.Entries.{AnyOf, an-entry-of}
use Rattle.law_print_and_parse.proofs.Statements.{condition_kinds, binder_aside, binder_kinds, value_kinds, timings}
use Rattle.law_print_and_parse.proofs.Branches.{turns_aside, turns_kinds, if-kinds, Last, arms_aside, arms_kinds, switch-kinds}
use Rattle.law_print_and_parse.proofs.Frugal.{Short, nil, cat, sign-before, name-before, number-before, entry-before, opener-before, same-before, same-start, same-kinds, Frugal, Saves, finish, saves-many, saves-separated, listed}
use Rattle.law_print_and_parse.proofs.FrugalTypes.{saves-index}
use Rattle.law_print_and_parse.proofs.FrugalWithin.{expression-fair, saves-path, path-alike}

pub saves-expr : (n : ℕ) → Saves (g.expr_rule f n (inner n)) expr_kinds expr_aside
saves-expr n ts x rest h = let b = expression-fair n ts x rest h in record { alike = ap (within 0) b.alike; short = b.short }

pub inner-expr : (n : ℕ) → Saves (inner n).expr expr_kinds expr_aside
inner-expr zero ts z rest h = absurd h
inner-expr (suc n) ts z rest h = saves-expr n ts z rest h

inner-path : (n : ℕ) → Saves (inner n).path path_kinds path_aside
inner-path zero ts z rest h = absurd h
inner-path (suc n) ts z rest h = saves-path n ts z rest h

-- ---- labels, conditions, binders and values

signal-alike : (x : Word) → spelled (expr_aside (expr.Signal (named x []))) ≡ spelled (expr.Signal (named x []))
signal-alike x =
    ap spelled (expr-Signal (named x [])) ∙ spelled-Signal (path_aside (named x []))
    ∙ ap alone (ap path_kinds (path-alike x []) ∙ path-of-parts (word_aside x) [] ∙ sym (path-of-parts x [])) ∙ sym (spelled-Signal (named x []))

saves-label : Saves g.label expr_kinds expr_aside
saves-label ts z rest (inl (v, m0, h, (e, r))) = finish e r (record {
  alike = ap (within 0) (ap spelled (expr-Number v.0 v.1) ∙ spelled-Number v.0 0 ∙ sym (spelled-Number v.0 v.1));
  short = same-kinds (sym (ap (within 0) (spelled-Number v.0 v.1))) (number-before v h (nil m0));
})
saves-label ts z rest (inr (x, m0, h, (e, r))) = finish e r (record {
  alike = ap (within 0) (signal-alike x);
  short = same-kinds (sym (ap (within 0) (spelled-Signal (named x [])) ∙ path-of-parts x [])) (name-before x h (nil m0));
})

saves-condition : (n : ℕ) → Saves (g.condition_rule f n (inner n)) condition_kinds expr_aside
saves-condition n ts z rest (at, m0, ho, (x, m1, hx, (a2, m2, h2, (e, r)))) =
    let b = inner-expr n m0 x m1 hx in
    finish e r (record {
      alike = ap (λ (ks : Kinds). open_paren ∷ ks ++ close_paren ∷ []) b.alike;
      short = cat (opener-before n open_paren at ho b.short) (sign-before close_paren a2 h2 (nil m2));
    })

inner-condition : (n : ℕ) → Saves (inner n).condition condition_kinds expr_aside
inner-condition zero ts z rest h = absurd h
inner-condition (suc n) ts z rest h = saves-condition n ts z rest h

saves-binder : (n : ℕ) → Saves (g.binder_rule f n (inner n)) binder_kinds binder_aside
saves-binder n ts z rest (at, m0, ho, (x, m1, hx, (a2, m2, h2, (over, m3, h3, (a4, m4, h4, (e, r)))))) =
    let b = saves-index m2 over m3 h3 in
    finish e r (record {
      alike = ap (λ (ks : Kinds). open_paren ∷ Ident x.name ∷ w.word_in ∷ ks ++ close_paren ∷ []) b.alike;
      short = cat (opener-before n open_paren at ho (name-before x hx (sign-before w.word_in a2 h2 b.short))) (sign-before close_paren a4 h4 (nil m4));
    })

pub inner-binder : (n : ℕ) → Saves (inner n).binder binder_kinds binder_aside
inner-binder zero ts z rest h = absurd h
inner-binder (suc n) ts z rest h = saves-binder n ts z rest h

saves-value : (n : ℕ) → Saves (g.value f n (inner n)) value_kinds expr_aside
saves-value n ts z rest (a0, m0, h0, (x, m1, hx, (a2, m2, h2, (e, r)))) =
    let b = saves-expr n m0 x m1 hx in
    finish e r (record {
      alike = ap (λ (ks : Kinds). becomes ∷ ks ++ semicolon ∷ []) b.alike;
      short = cat (sign-before becomes a0 h0 b.short) (sign-before semicolon a2 h2 (nil m2));
    })

-- ---- assignments

assign-kinds : (c : Kind) (p : Path) (x : Expr) (at : ℕ) → stmt_kinds (stmt.Assign c p x at) ≡ target c (path_kinds p) ++ value_kinds x
assign-kinds c p x at = k.stmt-Assign c p x at ∙ append_assoc (target c (path_kinds p)) (becomes ∷ expr_kinds x) (semicolon ∷ [])

assign-saved : (c : Kind) (p : Path) (x : Expr) (at : ℕ) {ts rest : Tokens} → path_kinds (path_aside p) ≡ path_kinds p → value_kinds (expr_aside x) ≡ value_kinds x → Short (target c (path_kinds p) ++ value_kinds x) ts rest
    → Frugal stmt_kinds stmt_aside (stmt.Assign c p x at) ts rest
assign-saved c p x at d e h = record {
  alike = ap stmt_kinds (a.stmt-Assign c p x at) ∙ assign-kinds c (path_aside p) (expr_aside x) 0 ∙ ap (λ (ks : Kinds). target c ks ++ value_kinds (expr_aside x)) d
      ∙ ap (λ (ks : Kinds). target c (path_kinds p) ++ ks) e ∙ sym (assign-kinds c p x at);
  short = same-kinds (sym (assign-kinds c p x at)) h;
}

saves-assignment : (n : ℕ) → Saves (g.assignment f n (inner n)) stmt_kinds stmt_aside
saves-assignment n ts z rest (p, m0, hp, (x, m1, hx, (e, r))) =
    let b = saves-path n ts p m0 hp in
    let c = saves-value n m0 x m1 hx in
    finish e r (assign-saved kind.Comb p x (out-Path p).at b.alike c.alike (cat b.short c.short))

saves-timed : (n : ℕ) → Saves (g.timed f n (inner n)) stmt_kinds stmt_aside
saves-timed n ts z rest (c, m0, hc, (a1, m1, h1, (p, m2, hp, (a3, m3, h3, (x, m4, hx, (e, r)))))) = finish e r (go (an-entry-of timings ts c m0 hc))
  where
    counted : (mark : TokenKind) → Short ((mark ∷ open_paren ∷ path_kinds p ++ close_paren ∷ []) ++ value_kinds x) ts m4
    counted mark =
        let b = inner-path n m1 p m2 hp in
        let d = saves-value n m3 x m4 hx in
        cat (cat (entry-before timings c hc (opener-before n open_paren a1 h1 b.short)) (sign-before close_paren a3 h3 (nil m3))) d.short

    go : AnyOf timings c.0 → Frugal stmt_kinds stmt_aside (stmt.Assign c.0 p x c.1) ts m4
    go (inl e) =
        let P : Kind → Type 0 = λ v. Frugal stmt_kinds stmt_aside (stmt.Assign v p x c.1) ts m4 in
        let b = inner-path n m1 p m2 hp in
        let d = saves-value n m3 x m4 hx in
        subst P (sym e) (assign-saved kind.Init p x c.1 b.alike d.alike (counted w.word_init))
    go (inr (inl e)) =
        let P : Kind → Type 0 = λ v. Frugal stmt_kinds stmt_aside (stmt.Assign v p x c.1) ts m4 in
        let b = inner-path n m1 p m2 hp in
        let d = saves-value n m3 x m4 hx in
        subst P (sym e) (assign-saved kind.Next p x c.1 b.alike d.alike (counted w.word_next))
    go (inr (inr e)) = absurd e

-- ---- for

abbrev bounds : List (TokenKind × Bool)
bounds = (less, false) ∷ (at_most, true) ∷ []

saves-turns : (n : ℕ) → Saves (g.turns_rule f n (inner n)) turns_kinds turns_aside
saves-turns n ts z rest (a0, m0, h0, (x, m1, h1, (a2, m2, h2, (from, m3, h3, (a4, m4, h4, (x5, m5, h5, (closed, m6, h6, (to, m7, h7, (a8, m8, h8, (x9, m9, h9, (a10, m10, h10, (x11, m11, h11, (a12, m12, h12, (step, m13, (v, m14, h14, (least, (same, r0))), (a15, m15, h15, (e, r)))))))))))))))) =
    finish e r (record {
      alike = refl;
      short =
          opener-before n open_paren a0 h0 (name-before x h1 (sign-before equal a2 h2 (number-before from h3 (sign-before semicolon a4 h4 (same-before x x5 h5 (entry-before bounds closed h6 (number-before to h7
          (sign-before semicolon a8 h8 (same-before x x9 h9 (sign-before equal a10 h10 (same-before x x11 h11 (sign-before plus a12 h12 (number-before v h14 (same-start (sym r0) (sign-before close_paren a15 h15 (nil m15))))))))))))))));
    })

inner-turns : (n : ℕ) → Saves (inner n).turns turns_kinds turns_aside
inner-turns zero ts z rest h = absurd h
inner-turns (suc n) ts z rest h = saves-turns n ts z rest h

-- ---- statements of statements

record Inside (n : ℕ) : Type 0 where
  stmt : Saves (inner n).stmt stmt_kinds stmt_aside
  arms : Saves (inner n).arms arms_kinds arms_aside

abbrev branch_kinds : Option Stmt → Kinds
branch_kinds y = otherwise (option_map stmt_kinds y)

saves-branch : (n : ℕ) → Inside n → (x : Stmt) → Saves (optional (g.otherwise f n (inner n) x)) branch_kinds (option_map stmt_aside)
saves-branch n i x ts y rest (inl (v, mid, (ends, (at, m0, ht, hv)), (e, r))) =
    let b = i.stmt m0 v mid hv in
    finish e r (record { alike = ap (λ (ks : Kinds). w.word_else ∷ ks) b.alike; short = sign-before w.word_else at ht b.short })
saves-branch n i x ts y rest (inr (e, r)) = finish e r (record { alike = refl; short = nil ts })

saves-if : (n : ℕ) → Inside n → Saves (g.if_rule f n (inner n)) stmt_kinds stmt_aside
saves-if n i ts z rest (at, m0, ho, (c, m1, hc, (x, m2, hx, (y, m3, hy, (e, r))))) =
    let b = inner-condition n m0 c m1 hc in
    let p = i.stmt m1 x m2 hx in
    let q = saves-branch n i x m2 y m3 hy in
    finish e r (record {
      alike = ap stmt_kinds (a.stmt-If c x y at) ∙ if-kinds (expr_aside c) (stmt_aside x) (option_map stmt_aside y) 0
          ∙ ap (λ (ks : Kinds). w.word_if ∷ ks ++ (stmt_kinds (stmt_aside x) ++ branch_kinds (option_map stmt_aside y))) b.alike
          ∙ ap (λ (ks : Kinds). w.word_if ∷ condition_kinds c ++ (ks ++ branch_kinds (option_map stmt_aside y))) p.alike
          ∙ ap (λ (ks : Kinds). w.word_if ∷ condition_kinds c ++ (stmt_kinds x ++ ks)) q.alike ∙ sym (if-kinds c x y at);
      short = same-kinds (sym (if-kinds c x y at)) (opener-before n w.word_if at ho (cat b.short (cat p.short q.short)));
    })

saves-arm : (n : ℕ) → Inside n → Saves (g.arm f n (inner n)) arm_kinds arm_aside
saves-arm n i ts z rest (labels, m0, hl, (a1, m1, h1, (x, m2, hx, (e, r)))) =
    let b = saves-separated {r = g.label} expr_kinds expr_aside saves-label ts labels m0 hl in
    let p = i.stmt m1 x m2 hx in
    finish e r (record {
      alike = ap arm_kinds (a.arm-aside labels x) ∙ a.arm-rolled (map expr_aside labels) (stmt_aside x) ∙ ap (λ (ks : Kinds). ks ++ colon ∷ stmt_kinds (stmt_aside x)) b.alike
          ∙ ap (λ (ks : Kinds). listed expr_kinds labels ++ colon ∷ ks) p.alike ∙ sym (a.arm-rolled labels x);
      short = same-kinds (sym (a.arm-rolled labels x)) (cat b.short (sign-before colon a1 h1 p.short));
    })

abbrev last_kinds : Option Stmt → Kinds
last_kinds y = other_arm (option_map stmt_kinds y)

saves-last : (n : ℕ) → Inside n → Saves (Last n) last_kinds (option_map stmt_aside)
saves-last n i ts y rest (inl (v, mid, (at, m0, ht, (a1, m1, h1, hv)), (e, r))) =
    let b = i.stmt m1 v mid hv in
    finish e r (record { alike = ap (λ (ks : Kinds). w.word_default ∷ colon ∷ ks) b.alike; short = sign-before w.word_default at ht (sign-before colon a1 h1 b.short) })
saves-last n i ts y rest (inr (e, r)) = finish e r (record { alike = refl; short = nil ts })

saves-arms : (n : ℕ) → Inside n → Saves (g.arms_rule f n (inner n)) arms_kinds arms_aside
saves-arms n i ts z rest (at, m0, ho, (arms, m1, ha, (last, m2, hl, (a3, m3, h3, (e, r))))) =
    let b = saves-many {r = g.arm f n (inner n)} arm_kinds arm_aside (saves-arm n i) m0 arms m1 ha in
    let p = saves-last n i m1 last m2 hl in
    finish e r (record {
      alike = ap (λ (ks : Kinds). open_brace ∷ ks ++ last_kinds (option_map stmt_aside last) ++ close_brace ∷ []) b.alike ∙ ap (λ (ks : Kinds). open_brace ∷ flat_map arm_kinds arms ++ ks ++ close_brace ∷ []) p.alike;
      short = cat (cat (opener-before n open_brace at ho b.short) p.short) (sign-before close_brace a3 h3 (nil m3));
    })

saves-switch : (n : ℕ) → Inside n → Saves (g.switch f n (inner n)) stmt_kinds stmt_aside
saves-switch n i ts z rest (at, m0, ho, (x, m1, hx, (t, m2, ht, (e, r)))) =
    let b = inner-condition n m0 x m1 hx in
    let p = i.arms m1 t m2 ht in
    finish e r (record {
      alike = ap stmt_kinds (a.stmt-Switch x t.0 t.1 at) ∙ switch-kinds (expr_aside x) (arms_aside t) 0 ∙ ap (λ (ks : Kinds). w.word_switch ∷ ks ++ arms_kinds (arms_aside t)) b.alike
          ∙ ap (λ (ks : Kinds). w.word_switch ∷ condition_kinds x ++ ks) p.alike ∙ sym (switch-kinds x t at);
      short = same-kinds (sym (switch-kinds x t at)) (opener-before n w.word_switch at ho (cat b.short p.short));
    })

saves-default : (n : ℕ) → Inside n → Saves (g.default f n (inner n)) stmt_kinds stmt_aside
saves-default n i ts z rest (at, m0, ho, (x, m1, hx, (a2, m2, h2, (y, m3, hy, (e, r))))) =
    let b = i.stmt m0 x m1 hx in
    let p = i.stmt m2 y m3 hy in
    finish e r (record {
      alike = ap stmt_kinds (a.stmt-Default x y at) ∙ k.stmt-Default (stmt_aside x) (stmt_aside y) 0 ∙ ap (λ (ks : Kinds). w.word_default ∷ ks ++ w.word_in ∷ stmt_kinds (stmt_aside y)) b.alike
          ∙ ap (λ (ks : Kinds). w.word_default ∷ stmt_kinds x ++ w.word_in ∷ ks) p.alike ∙ sym (k.stmt-Default x y at);
      short = same-kinds (sym (k.stmt-Default x y at)) (cat (opener-before n w.word_default at ho b.short) (sign-before w.word_in a2 h2 p.short));
    })

saves-for : (n : ℕ) → Inside n → Saves (g.for f n (inner n)) stmt_kinds stmt_aside
saves-for n i ts z rest (at, m0, ho, (t, m1, ht, (x, m2, hx, (e, r)))) =
    let b = inner-turns n m0 t m1 ht in
    let p = i.stmt m1 x m2 hx in
    finish e r (record {
      alike = ap stmt_kinds (a.stmt-For t.var t.from t.to t.closed t.step x at) ∙ k.stmt-For (word_aside t.var) t.from t.to t.closed t.step (stmt_aside x) 0
          ∙ ap (λ (ks : Kinds). w.word_for ∷ turns_kinds t ++ ks) p.alike ∙ sym (k.stmt-For t.var t.from t.to t.closed t.step x at);
      short = same-kinds (sym (k.stmt-For t.var t.from t.to t.closed t.step x at)) (opener-before n w.word_for at ho (cat b.short p.short));
    })

saves-simple : (n : ℕ) → Inside n → Saves (g.simple f n (inner n)) stmt_kinds stmt_aside
saves-simple n i ts z rest (inl h) = saves-assignment n ts z rest h
saves-simple n i ts z rest (inr (inl h)) = saves-timed n ts z rest h
saves-simple n i ts z rest (inr (inr (inl h))) = saves-if n i ts z rest h
saves-simple n i ts z rest (inr (inr (inr (inl h)))) = saves-switch n i ts z rest h
saves-simple n i ts z rest (inr (inr (inr (inr (inl h))))) = saves-default n i ts z rest h
saves-simple n i ts z rest (inr (inr (inr (inr (inr h))))) = saves-for n i ts z rest h

stmt-saved : (n : ℕ) → Inside n → Saves (g.stmt_rule f n (inner n)) stmt_kinds stmt_aside
stmt-saved n i ts z rest (inl (at, m0, ho, (v, m1, hv, (x, m2, hx, (e, r))))) =
    let b = inner-binder n m0 v m1 hv in
    let p = i.stmt m1 x m2 hx in
    finish e r (record {
      alike = ap stmt_kinds (a.stmt-Forall v.0 v.1 x at) ∙ k.stmt-Forall (word_aside v.0) (type_aside v.1) (stmt_aside x) 0 ∙ ap (λ (ks : Kinds). w.word_forall ∷ ks ++ stmt_kinds (stmt_aside x)) b.alike
          ∙ ap (λ (ks : Kinds). binder v.0 v.1 ++ ks) p.alike ∙ sym (k.stmt-Forall v.0 v.1 x at);
      short = same-kinds (sym (k.stmt-Forall v.0 v.1 x at)) (opener-before n w.word_forall at ho (cat b.short p.short));
    })
stmt-saved n i ts z rest (inr (inl (at, m0, ho, (parts, m1, hp, (a2, m2, h2, (e, r)))))) =
    let b = saves-many {r = (inner n).stmt} stmt_kinds stmt_aside i.stmt m0 parts m1 hp in
    finish e r (record {
      alike = ap stmt_kinds (a.stmt-Block parts) ∙ k.stmt-Block (map stmt_aside parts) ∙ ap (λ (ks : Kinds). open_brace ∷ ks ++ close_brace ∷ []) b.alike ∙ sym (k.stmt-Block parts);
      short = same-kinds (sym (k.stmt-Block parts)) (cat (opener-before n open_brace at ho b.short) (sign-before close_brace a2 h2 (nil m2)));
    })
stmt-saved n i ts z rest (inr (inr h)) = saves-simple n i ts z rest h

insides : (n : ℕ) → Inside n
insides zero = record { stmt = λ ts z rest h. absurd h; arms = λ ts z rest h. absurd h }
insides (suc n) = let i = insides n in record { stmt = stmt-saved n i; arms = saves-arms n i }

pub simples-saved : (n : ℕ) → Saves (g.simple f n (inner n)) stmt_kinds stmt_aside
simples-saved n = saves-simple n (insides n)

pub inner-stmt : (n : ℕ) → Saves (inner n).stmt stmt_kinds stmt_aside
inner-stmt n = let i = insides n in i.stmt
