-- What the rules of bodies, tops and texts spell is spelled again, at tokens whose offsets rise.
use Rattle.std.proofs.Common.{◌≡◌, ℕ, zero, suc, ◌<◌, List, [], ◌∷◌, ◌++◌, Option, map, inl, inr, refl, ap, sym, ◌∙◌, subst, append_assoc}
use Rattle.std.specs.List.{flat_map}
use Rattle.smv_core.specs.declared.token.TokenKind.{TokenKind}
use Rattle.smv_core.specs.declared.token.TokenKind.TheVariants.{Ident}
use Rattle.smv_core.specs.declared.tree.Word.{Word}
use Rattle.smv_core.specs.declared.tree.TypeExpr.{TypeExpr}
use Rattle.smv_core.specs.declared.tree.Expr.{Expr}
use Rattle.smv_core.specs.declared.tree.Stmt.{Stmt}
use Rattle.smv_core.specs.declared.tree.Role.{Role}
use Rattle.smv_core.specs.declared.tree.Role.TheVariants as role
use Rattle.smv_core.specs.declared.tree.Item.{Item}
use Rattle.smv_core.specs.declared.tree.Item.TheVariants as item
use Rattle.smv_core.specs.Signs.{open_paren, close_paren, open_brace, close_brace, colon, semicolon, comma}
use Rattle.smv_core.specs.Signs as w
use Rattle.smv_core.specs.Notation.{Tokens, many, one_of, name, separated, separated_or_none}
use Rattle.smv_core.specs.Grammar as g
use Rattle.smv_core.specs.Grammar.{place_of}
use Rattle.smv_print.specs.Written.{Kinds}
use Rattle.smv_print.specs.Written as s
use Rattle.smv_print.specs.Types.{type_kinds, word_kinds, names_kinds}
use Rattle.smv_print.specs.Expressions.{expr_kinds}
use Rattle.smv_print.specs.Statements.{stmt_kinds}
use Rattle.smv_print.specs.Items.{role_kinds, item_kinds}
use Rattle.smv_print.proofs.ItemLaws as k
use Rattle.law_print_and_parse.specs.Aside.{word_aside, type_aside, expr_aside, stmt_aside, item_aside}
use Rattle.law_print_and_parse.proofs.AsideItems as a
use Rattle.law_print_and_parse.proofs.Again.{Reads, Again, anyhow, next, made, ended, left, right, regroup, sign, level, an-entry}
use Rattle.law_print_and_parse.proofs.Keeps.{KeepsAt, Keeps, keeps-many, keeps-separated_or_none}
use Rattle.law_print_and_parse.proofs.Types.{SameType, name-again, keeps-names, types-kept}
use Rattle.law_print_and_parse.proofs.Levels.{f, inner}
use Rattle.law_print_and_parse.proofs.Entries.{AnyOf, an-entry-of}
use Rattle.law_print_and_parse.proofs.Within.{expression-again}
use Rattle.law_print_and_parse.proofs.Blocks.{inner-statements}
use Rattle.law_print_and_parse.proofs.References.{rising}
use Rattle.law_print_and_parse.proofs.Items.{item-kept}
use Rattle.smv_core.specs.declared.tree.Span.{Span}
use Rattle.smv_core.specs.declared.tree.Top.{Top}
use Rattle.smv_core.specs.declared.tree.Top.TheVariants as top
use Rattle.smv_print.specs.Canonical as c
use Rattle.smv_print.specs.Canonical.{top_kinds}
use Rattle.law_print_and_parse.specs.Aside.{top_aside}
use Rattle.law_print_and_parse.proofs.Types.{span-again, keeps-name}
use Rattle.std.proofs.Common.{true, false, Some, None}

-- ---- declarations, instances and layers

abbrev Body : ℕ → Item → Type 0
Body n z = Again (g.body_rule f n (inner n)) (item_kinds z) (λ y. item_aside y ≡ item_aside z)

declare-same : (how r : Role) (names ys : List Word) (of v : TypeExpr) (at at' : ℕ) → r ≡ how → map word_aside ys ≡ map word_aside names → SameType of v
    → item_aside (item.Declare r ys v at') ≡ item_aside (item.Declare how names of at)
declare-same how r names ys of v at at' p q t =
    a.item-Declare r ys v at' ∙ ap (λ (z : Role). item.Declare z (map word_aside ys) (type_aside v) 0) p ∙ ap (λ (z : List Word). item.Declare how z (type_aside v) 0) q
    ∙ ap (λ (z : TypeExpr). item.Declare how (map word_aside names) z 0) t ∙ sym (a.item-Declare how names of at)

-- name { ',' name } ':' Type ';'
abbrev typed_kinds : List Word → TypeExpr → Kinds
typed_kinds names of = names_kinds names ++ colon ∷ (type_kinds of ++ semicolon ∷ [])

typed-again : (n : ℕ) (how r : Role) (place : List Word → ℕ) (names : List Word) (of : TypeExpr) (at : ℕ) → r ≡ how
    → Again (separated name) (names_kinds names) (λ ys. map word_aside ys ≡ map word_aside names) → Again (g.type_rule f n (inner n)) (type_kinds of) (SameType of)
    → Again (g.declared f n (inner n) r place) (typed_kinds names of) (λ y. item_aside y ≡ item_aside (item.Declare how names of at))
typed-again n how r place names of at e h t = next h (λ ys d. sign refl (λ _. next t (λ v b. sign refl (λ _. ended (declare-same how r names ys of v at (place ys) e d b)))))

abbrev pub roles : List (TokenKind × Role)
roles = (w.word_abstract, role.Abstract) ∷ (w.word_input, role.Input) ∷ (w.word_output, role.Output) ∷ []

marked-again : (n : ℕ) (mark : TokenKind) (how : Role) (names : List Word) (of : TypeExpr) (at : ℕ) → role_kinds how ≡ mark ∷ [] → Again (one_of roles) (mark ∷ []) (λ y. y.0 ≡ how)
    → Again (separated name) (names_kinds names) (λ ys. map word_aside ys ≡ map word_aside names) → Again (g.type_rule f n (inner n)) (type_kinds of) (SameType of)
    → Body n (item.Declare how names of at)
marked-again n mark how names of at k0 entry h t =
    regroup (sym (k.item-Declare how names of at ∙ ap (λ (ks : Kinds). ks ++ names_kinds names ++ colon ∷ type_kinds of ++ semicolon ∷ []) k0
    ∙ append_assoc (mark ∷ names_kinds names) (colon ∷ type_kinds of) (semicolon ∷ [])))
    (left (left (next entry (λ r e. typed-again n how r.0 (λ names. r.1) names of at e h t))))

declarations-kept : (n : ℕ) (ts : Tokens) (z : Item) (rest : Tokens) → g.declaration f n (inner n) ts z rest → Body n z
declarations-kept n ts z rest (inl (r, m0, hr, (names, m1, hn, (a2, m2, h2, (of, m3, ht, (a4, m4, h4, (e, q))))))) = subst (Body n) e (go (an-entry-of roles ts r m0 hr))
  where
    go : AnyOf roles r.0 → Body n (item.Declare r.0 names of r.1)
    go (inl b) = let P : Role → Type 0 = λ how. Body n (item.Declare how names of r.1) in
        subst P (sym b) (marked-again n w.word_abstract role.Abstract names of r.1 refl (an-entry roles refl) (keeps-names m0 names m1 hn) (types-kept n m2 of m3 ht))
    go (inr (inl b)) = let P : Role → Type 0 = λ how. Body n (item.Declare how names of r.1) in
        subst P (sym b) (marked-again n w.word_input role.Input names of r.1 refl (an-entry roles refl) (keeps-names m0 names m1 hn) (types-kept n m2 of m3 ht))
    go (inr (inr (inl b))) = let P : Role → Type 0 = λ how. Body n (item.Declare how names of r.1) in
        subst P (sym b) (marked-again n w.word_output role.Output names of r.1 refl (an-entry roles refl) (keeps-names m0 names m1 hn) (types-kept n m2 of m3 ht))
    go (inr (inr (inr b))) = absurd b
declarations-kept n ts z rest (inr (names, m1, hn, (a2, m2, h2, (of, m3, ht, (a4, m4, h4, (e, q)))))) =
    subst (Body n) e (regroup (sym (k.item-Declare role.Plain names of (place_of names) ∙ append_assoc (names_kinds names) (colon ∷ type_kinds of) (semicolon ∷ [])))
    (left (right (typed-again n role.Plain role.Plain place_of names of (place_of names) refl (keeps-names ts names m1 hn) (types-kept n m2 of m3 ht)))))

inner-expr : (n : ℕ) → Keeps (inner n).expr expr_kinds expr_aside
inner-expr zero ts z rest h = absurd h
inner-expr (suc n) ts z rest h = expression-again n ts z rest h

instance-same : (names ys : List Word) (m v : Word) (args xs : List Expr) (at at' : ℕ) → map word_aside ys ≡ map word_aside names → word_aside v ≡ word_aside m → map expr_aside xs ≡ map expr_aside args
    → item_aside (item.Instance ys v xs at') ≡ item_aside (item.Instance names m args at)
instance-same names ys m v args xs at at' p q r =
    a.item-Instance ys v xs at' ∙ ap (λ (z : List Word). item.Instance z (word_aside v) (map expr_aside xs) 0) p ∙ ap (λ (z : Word). item.Instance (map word_aside names) z (map expr_aside xs) 0) q
    ∙ ap (λ (z : List Expr). item.Instance (map word_aside names) (word_aside m) z 0) r ∙ sym (a.item-Instance names m args at)

instances-kept : (n : ℕ) (ts : Tokens) (z : Item) (rest : Tokens) → g.instance f n (inner n) ts z rest → Body n z
instances-kept n ts z rest (names, m0, hn, (a1, m1, h1, (m, m2, hm, (a3, m3, (a4, m4, ht, (u, m5, (some, q), e0)), (args, m6, ha, (a7, m7, h7, (a8, m8, h8, (e, r)))))))) =
    subst (Body n) e (regroup (sym (k.item-Instance names m args (place_of names)
    ∙ append_assoc (names_kinds names) (colon ∷ Ident m.name ∷ open_paren ∷ s.separated comma (map expr_kinds args)) (close_paren ∷ semicolon ∷ [])))
    (right (left (next (keeps-names ts names m0 hn) (λ ys p. sign refl (λ _. next (name-again m) (λ v b. level some refl (λ _.
    next (keeps-separated_or_none {r = (inner n).expr} expr_kinds expr_aside (inner-expr n) m3 args m6 ha) (λ xs d. sign refl (λ _. sign refl (λ _. ended
    (instance-same names ys m v args xs (place_of names) (place_of ys) p b d))))))))))))

layers-kept : (n : ℕ) (ts : Tokens) (z : Item) (rest : Tokens) → g.layer f n (inner n) ts z rest → Body n z
layers-kept n ts z rest (at, m0, h0, (x, m1, hx, (a2, m2, h2, (a3, m3, (a4, m4, ht, (u, m5, (some, q), e0)), (body, m6, hb, (a7, m7, h7, (e, r))))))) =
    subst (Body n) e (regroup (sym (k.item-Layer x body at)) (right (right (left (sign refl (λ at'. next (name-again x) (λ y p. sign refl (λ _. level some refl (λ _.
    next (keeps-many {r = (inner n).stmt} stmt_kinds stmt_aside (inner-statements n) m3 body m6 hb) (λ ys d. sign refl (λ _. ended
    (a.item-Layer y ys at' ∙ ap (λ (v : Word). item.Layer v (map stmt_aside ys) 0) p ∙ ap (λ (vs : List Stmt). item.Layer (word_aside x) vs 0) d ∙ sym (a.item-Layer x body at)))))))))))))

body-kept : (length n : ℕ) → KeepsAt (rising length) (inner n).item item_kinds item_aside → KeepsAt (rising length) (g.body_rule f n (inner n)) item_kinds item_aside
body-kept length n i ts z rest (inl h) = anyhow (declarations-kept n ts z rest h)
body-kept length n i ts z rest (inr (inl h)) = anyhow (instances-kept n ts z rest h)
body-kept length n i ts z rest (inr (inr (inl h))) = anyhow (layers-kept n ts z rest h)
body-kept length n i ts z rest (inr (inr (inr h))) = right (right (right (item-kept length n i ts z rest h)))

record InnerItems (length n : ℕ) : Type 0 where
  item : KeepsAt (rising length) (inner n).item item_kinds item_aside
  body : KeepsAt (rising length) (inner n).body item_kinds item_aside

inner-items : (length n : ℕ) → InnerItems length n
inner-items length zero = record { item = λ ts z rest h. absurd h; body = λ ts z rest h. absurd h }
inner-items length (suc n) = let i = inner-items length n in record { item = item-kept length n i.item; body = body-kept length n i.item }

-- ---- tops

extent-again : (o : Option Span) → Again g.extent (c.extent o) (λ y. y.0 ≡ o)
extent-again None = left (sign refl (λ _. ended refl))
extent-again (Some x) = right (made (span-again x) (λ y e. ap (λ (v : Span). let o : Option Span = Some v in o) e))

abbrev TopAgain : ℕ → ℕ → Top → Type 0
TopAgain length n z = Reads (rising length) (g.top_rule f n (inner n)) (top_kinds z) (λ y. top_aside y ≡ top_aside z)

scalars-again : (length n : ℕ) (x : Word) (o : Option Span) (at : ℕ) → TopAgain length n (top.SetType x false o at)
scalars-again length n x o at = left (sign refl (λ _. next (anyhow (name-again x)) (λ y d. next (anyhow (extent-again o)) (λ v e. sign refl (λ _. ended
    (ap (λ (z : Word). top.SetType z false v.0 0) d ∙ ap (λ (z : Option Span). top.SetType (word_aside x) false z 0) e))))))

ordered-again : (length n : ℕ) (x : Word) (at : ℕ) → TopAgain length n (top.SetType x true None at)
ordered-again length n x at = right (left (sign refl (λ _. next (anyhow (name-again x)) (λ y d. sign refl (λ _. sign refl (λ _. ended (ap (λ (z : Word). top.SetType z true None 0) d)))))))

alias-again : (length n : ℕ) (x : Word) (of : TypeExpr) (at : ℕ) → Again (g.type_rule f n (inner n)) (type_kinds of) (SameType of) → TopAgain length n (top.Alias x of at)
alias-again length n x of at h = right (right (left (sign refl (λ _. next (anyhow (name-again x)) (λ y d. next (anyhow h) (λ v e. sign refl (λ _. ended
    (ap (λ (z : Word). top.Alias z (type_aside v) 0) d ∙ ap (λ (z : TypeExpr). top.Alias (word_aside x) z 0) e))))))))

keeps-formals : Keeps (separated_or_none name) names_kinds (map word_aside)
unfolding names_kinds
keeps-formals = keeps-separated_or_none {r = name} word_kinds word_aside keeps-name

module-same : (x y : Word) (formals fs : List Word) (body items : List Item) → word_aside y ≡ word_aside x → map word_aside fs ≡ map word_aside formals → map item_aside items ≡ map item_aside body
    → top.Module (word_aside y) (map word_aside fs) (map item_aside items) 0 ≡ top.Module (word_aside x) (map word_aside formals) (map item_aside body) 0
module-same x y formals fs body items p q r =
    ap (λ (z : Word). top.Module z (map word_aside fs) (map item_aside items) 0) p ∙ ap (λ (z : List Word). top.Module (word_aside x) z (map item_aside items) 0) q
    ∙ ap (λ (z : List Item). top.Module (word_aside x) (map word_aside formals) z 0) r

module-again : (length n : ℕ) (x : Word) (formals : List Word) (body : List Item) (at : ℕ) → 0 < n → Again (separated_or_none name) (names_kinds formals) (λ ys. map word_aside ys ≡ map word_aside formals)
    → Reads (rising length) (many (inner n).body) (flat_map item_kinds body) (λ ys. map item_aside ys ≡ map item_aside body) → TopAgain length n (top.Module x formals body at)
module-again length n x formals body at some h q =
    regroup (sym (append_assoc (c.heading x formals) (open_brace ∷ flat_map item_kinds body) (close_brace ∷ [])
    ∙ append_assoc (w.word_module ∷ Ident x.name ∷ open_paren ∷ names_kinds formals) (close_paren ∷ []) (open_brace ∷ flat_map item_kinds body ++ close_brace ∷ [])))
    (right (right (right (sign refl (λ _. next (anyhow (name-again x)) (λ y p. level some refl (λ _. next (anyhow h) (λ fs d. sign refl (λ _. level some refl (λ _. next q (λ items e. sign refl (λ _. ended
    (module-same x y formals fs body items p d e)))))))))))))

tops-kept : (length n : ℕ) → KeepsAt (rising length) (g.top_rule f n (inner n)) top_kinds top_aside
tops-kept length n ts z rest (inl (a0, m0, h0, (x, m1, hx, (o, m2, ho, (a3, m3, h3, (e, r)))))) = subst (TopAgain length n) e (scalars-again length n x o.0 o.1)
tops-kept length n ts z rest (inr (inl (a0, m0, h0, (x, m1, hx, (at, m2, h2, (a3, m3, h3, (e, r))))))) = subst (TopAgain length n) e (ordered-again length n x at)
tops-kept length n ts z rest (inr (inr (inl (at, m0, h0, (x, m1, hx, (of, m2, ht, (a3, m3, h3, (e, r)))))))) = subst (TopAgain length n) e (alias-again length n x of at (types-kept n m1 of m2 ht))
tops-kept length n ts z rest (inr (inr (inr (at, m0, h0, (x, m1, hx, (a2, m2, (a3, m3, ht, (u, m4, (some, q), e0)), (formals, m5, hf, (a6, m6, h6, (a7, m7, h7, (body, m8, hb, (a9, m9, h9, (e, r)))))))))))) =
    let i = inner-items length n in
    subst (TopAgain length n) e (module-again length n x formals body at some (keeps-formals m2 formals m5 hf) (keeps-many {r = (inner n).body} item_kinds item_aside i.body m7 body m8 hb))

-- what the rule of texts spells is read again
pub text-kept : (length n : ℕ) → KeepsAt (rising length) (g.text_rule f n) (flat_map top_kinds) (map top_aside)
text-kept length n = keeps-many {r = g.top_rule f n (inner n)} top_kinds top_aside (tops-kept length n)
