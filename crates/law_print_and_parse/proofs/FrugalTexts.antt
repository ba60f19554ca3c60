-- The canonical tokens of items, tops and texts are no more than those that were read.
use Rattle.std.proofs.Common.{◌≡◌, ℕ, zero, suc, List, [], ◌∷◌, ◌++◌, Option, map, inl, inr, refl, ap, sym, ◌∙◌, subst}
use Rattle.std.specs.List.{flat_map}
use Rattle.smv_core.specs.declared.token.TokenKind.{TokenKind}
use Rattle.smv_core.specs.declared.token.TokenKind.TheVariants.{Ident}
use Rattle.smv_core.specs.declared.tree.Word.{Word}
use Rattle.smv_core.specs.declared.tree.Span.{Span}
use Rattle.smv_core.specs.declared.tree.TypeExpr.{TypeExpr}
use Rattle.smv_core.specs.declared.tree.Role.{Role}
use Rattle.smv_core.specs.declared.tree.Role.TheVariants as role
use Rattle.smv_core.specs.declared.tree.Item.TheVariants as item
use Rattle.smv_core.specs.Signs.{open_paren, close_paren, open_brace, close_brace, colon, semicolon, equal}
use Rattle.smv_core.specs.Signs as w
use Rattle.smv_core.specs.Notation.{Tokens}
use Rattle.smv_core.specs.Grammar as g
use Rattle.smv_core.specs.Grammar.{place_of}
use Rattle.smv_print.specs.Written.{Kinds}
use Rattle.smv_print.specs.Types.{type_kinds, names_kinds}
use Rattle.smv_print.specs.Expressions.{within, expr_kinds}
use Rattle.smv_print.specs.Statements.{stmt_kinds, binder}
use Rattle.smv_print.specs.Items.{brackets, ref_kinds, use_kinds, pair_kinds, role_kinds, cases, item_kinds}
use Rattle.smv_print.specs.Canonical as c
use Rattle.smv_print.specs.Canonical.{top_kinds}
use Rattle.smv_print.proofs.ItemLaws as k
use Rattle.law_print_and_parse.specs.Aside.{word_aside, type_aside, expr_aside, stmt_aside, ref_aside, use_aside, pair_aside, item_aside, top_aside}
use Rattle.law_print_and_parse.proofs.AsideItems as a
use Rattle.law_print_and_parse.proofs.Levels.{f, inner}
use Rattle.law_print_and_parse.proofs.Entries.{AnyOf, an-entry-of}
use Rattle.law_print_and_parse.proofs.Items.{split-kinds}
use Rattle.law_print_and_parse.proofs.Texts.{roles}
use Rattle.law_print_and_parse.proofs.Frugal.{Short, nil, cat, sign-before, name-before, entry-before, opener-before, same-end, same-kinds, Frugal, Saves, finish, saves-many, saves-separated, saves-separated_or_none, saves-names, listed}
use Rattle.law_print_and_parse.proofs.FrugalTypes.{span-short, saves-type}
use Rattle.law_print_and_parse.proofs.FrugalWithin.{sum-fair}
use Rattle.law_print_and_parse.proofs.FrugalStatements.{saves-expr, inner-expr, inner-binder, simples-saved, inner-stmt}
use Rattle.law_print_and_parse.proofs.FrugalReferences.{saves-brackets, saves-ref, saves-names_or_none, saves-use}

-- ---- claims, splits and uses

saves-claim : (n : ℕ) → Saves (g.claim f n (inner n)) item_kinds item_aside
saves-claim n ts z rest (x, m0, hx, (vars, m1, hv, (a2, m2, h2, (a3, m3, h3, (a4, m4, h4, (body, m5, hb, (a6, m6, h6, (e, r)))))))) =
    let b = saves-brackets n m0 vars m1 hv in
    let p = saves-expr n m4 body m5 hb in
    finish e r (record {
      alike = ap item_kinds (a.item-Claim x vars body x.at) ∙ k.item-Claim (word_aside x) (map word_aside vars) (expr_aside body) 0
          ∙ ap (λ (ks : Kinds). Ident x.name ∷ ks ++ colon ∷ w.word_assert ∷ w.word_G ∷ expr_kinds (expr_aside body) ++ semicolon ∷ []) b.alike
          ∙ ap (λ (ks : Kinds). Ident x.name ∷ brackets vars ++ colon ∷ w.word_assert ∷ w.word_G ∷ ks ++ semicolon ∷ []) p.alike ∙ sym (k.item-Claim x vars body x.at);
      short = same-kinds (sym (k.item-Claim x vars body x.at)) (cat (cat (name-before x hx b.short) (sign-before colon a2 h2 (sign-before w.word_assert a3 h3 (sign-before w.word_G a4 h4 p.short)))) (sign-before semicolon a6 h6 (nil m6)));
    })

saves-pair : (n : ℕ) → Saves (g.pair f n (inner n)) pair_kinds pair_aside
saves-pair n [] z rest (x, m0, h, q) = absurd h
saves-pair n (t ∷ ts) z rest (x, m0, (hs, place), (a1, m1, h1, (y, m2, hy, (e, r)))) =
    let b = sum-fair n (t ∷ ts) x.0 m0 hs in
    finish e r (record { alike = ap (λ u. within 8 u ++ equal ∷ Ident y.name ∷ []) b.alike; short = cat b.short (sign-before equal a1 h1 (name-before y hy (nil m2))) })

saves-split : (n : ℕ) → Saves (g.split f n (inner n)) item_kinds item_aside
saves-split n ts z rest (at, m0, h0, (x, m1, hx, (vars, m2, hv, (a3, m3, h3, (of, m4, ho, (a5, m5, h5, (pairs, m6, hp, (a7, m7, h7, (e, r))))))))) =
    let b = saves-brackets n m1 vars m2 hv in
    let p = saves-ref n m3 of m4 ho in
    let q = saves-separated {r = g.pair f n (inner n)} pair_kinds pair_aside (saves-pair n) m5 pairs m6 hp in
    finish e r (record {
      alike = ap item_kinds (a.item-Split x vars of pairs at) ∙ k.item-Split (word_aside x) (map word_aside vars) (ref_aside of) (map pair_aside pairs) 0
          ∙ split-kinds (word_aside x) (map word_aside vars) (ref_aside of) (map pair_aside pairs)
          ∙ ap (λ (ks : Kinds). w.word_subcase ∷ Ident x.name ∷ (ks ++ w.word_of ∷ (ref_kinds (ref_aside of) ++ cases (map pair_aside pairs)))) b.alike
          ∙ ap (λ (ks : Kinds). w.word_subcase ∷ Ident x.name ∷ (brackets vars ++ w.word_of ∷ (ks ++ cases (map pair_aside pairs)))) p.alike
          ∙ ap (λ (ks : Kinds). w.word_subcase ∷ Ident x.name ∷ (brackets vars ++ w.word_of ∷ (ref_kinds of ++ (w.word_for ∷ ks ++ semicolon ∷ [])))) q.alike
          ∙ sym (k.item-Split x vars of pairs at ∙ split-kinds x vars of pairs);
      short = same-kinds (sym (k.item-Split x vars of pairs at ∙ split-kinds x vars of pairs))
          (sign-before w.word_subcase at h0 (name-before x hx (cat b.short (sign-before w.word_of a3 h3 (cat p.short (cat (sign-before w.word_for a5 h5 q.short) (sign-before semicolon a7 h7 (nil m7))))))));
    })

saves-using : (n : ℕ) → Saves (g.using f n (inner n)) item_kinds item_aside
saves-using n ts z rest (at, m0, h0, (us, m1, hu, (a2, m2, h2, (proves, m3, hp, (a4, m4, h4, (e, r)))))) =
    let b = saves-separated {r = g.use_rule f n (inner n)} use_kinds use_aside (saves-use n) m0 us m1 hu in
    let p = saves-separated {r = g.ref f n (inner n)} ref_kinds ref_aside (saves-ref n) m2 proves m3 hp in
    finish e r (record {
      alike = ap item_kinds (a.item-Using us proves at) ∙ k.item-Using (map use_aside us) (map ref_aside proves) 0
          ∙ ap (λ (ks : Kinds). w.word_using ∷ ks ++ w.word_prove ∷ listed ref_kinds (map ref_aside proves) ++ semicolon ∷ []) b.alike
          ∙ ap (λ (ks : Kinds). w.word_using ∷ listed use_kinds us ++ w.word_prove ∷ ks ++ semicolon ∷ []) p.alike ∙ sym (k.item-Using us proves at);
      short = same-kinds (sym (k.item-Using us proves at)) (cat (cat (sign-before w.word_using at h0 b.short) (sign-before w.word_prove a2 h2 p.short)) (sign-before semicolon a4 h4 (nil m4)));
    })

-- ---- items and bodies

record Inside (n : ℕ) : Type 0 where
  item : Saves (inner n).item item_kinds item_aside
  body : Saves (inner n).body item_kinds item_aside

item-saved : (n : ℕ) → Inside n → Saves (g.item_rule f n (inner n)) item_kinds item_aside
item-saved n i ts z rest (inl (at, m0, ho, (v, m1, hv, (x, m2, hx, (e, r))))) =
    let b = inner-binder n m0 v m1 hv in
    let p = i.item m1 x m2 hx in
    finish e r (record {
      alike = ap item_kinds (a.item-Forall v.0 v.1 x at) ∙ k.item-Forall (word_aside v.0) (type_aside v.1) (item_aside x) 0 ∙ ap (λ (ks : Kinds). w.word_forall ∷ ks ++ item_kinds (item_aside x)) b.alike
          ∙ ap (λ (ks : Kinds). binder v.0 v.1 ++ ks) p.alike ∙ sym (k.item-Forall v.0 v.1 x at);
      short = same-kinds (sym (k.item-Forall v.0 v.1 x at)) (opener-before n w.word_forall at ho (cat b.short p.short));
    })
item-saved n i ts z rest (inr (inl (at, m0, ho, (items, m1, hi, (a2, m2, h2, (e, r)))))) =
    let b = saves-many {r = (inner n).item} item_kinds item_aside i.item m0 items m1 hi in
    finish e r (record {
      alike = ap item_kinds (a.item-Block items) ∙ k.item-Block (map item_aside items) ∙ ap (λ (ks : Kinds). open_brace ∷ ks ++ close_brace ∷ []) b.alike ∙ sym (k.item-Block items);
      short = same-kinds (sym (k.item-Block items)) (cat (opener-before n open_brace at ho b.short) (sign-before close_brace a2 h2 (nil m2)));
    })
item-saved n i ts z rest (inr (inr (inl h))) = saves-claim n ts z rest h
item-saved n i ts z rest (inr (inr (inr (inl h)))) = saves-split n ts z rest h
item-saved n i ts z rest (inr (inr (inr (inr (inl h))))) = saves-using n ts z rest h
item-saved n i ts z rest (inr (inr (inr (inr (inr (x, m0, hx, (e, r))))))) =
    let b = simples-saved n ts x m0 hx in
    finish e r (record { alike = ap item_kinds (a.item-Act x) ∙ k.item-Act (stmt_aside x) ∙ b.alike ∙ sym (k.item-Act x); short = same-kinds (sym (k.item-Act x)) b.short })

-- name { ',' name } ':' Type ';' behind a role or none
declare-saved : (how : Role) (names : List Word) (of : TypeExpr) (at : ℕ) {ts rest : Tokens} → names_kinds (map word_aside names) ≡ names_kinds names → type_kinds (type_aside of) ≡ type_kinds of
    → Short (role_kinds how ++ names_kinds names ++ colon ∷ type_kinds of ++ semicolon ∷ []) ts rest → Frugal item_kinds item_aside (item.Declare how names of at) ts rest
declare-saved how names of at d e h = record {
  alike = ap item_kinds (a.item-Declare how names of at) ∙ k.item-Declare how (map word_aside names) (type_aside of) 0
      ∙ ap (λ (ks : Kinds). role_kinds how ++ ks ++ colon ∷ type_kinds (type_aside of) ++ semicolon ∷ []) d
      ∙ ap (λ (ks : Kinds). role_kinds how ++ names_kinds names ++ colon ∷ ks ++ semicolon ∷ []) e ∙ sym (k.item-Declare how names of at);
  short = same-kinds (sym (k.item-Declare how names of at)) h;
}

saves-declaration : (n : ℕ) → Saves (g.declaration f n (inner n)) item_kinds item_aside
saves-declaration n ts z rest (inl (r, m0, hr, (names, m1, hn, (a2, m2, h2, (of, m3, ht, (a4, m4, h4, (e, q))))))) = finish e q (go (an-entry-of roles ts r m0 hr))
  where
    counted : (mark : TokenKind) → Short ((mark ∷ []) ++ names_kinds names ++ colon ∷ type_kinds of ++ semicolon ∷ []) ts m4
    counted mark =
        let b = saves-names m0 names m1 hn in
        let p = saves-type n m2 of m3 ht in
        cat (cat (entry-before roles r hr b.short) (sign-before colon a2 h2 p.short)) (sign-before semicolon a4 h4 (nil m4))

    of_role : (how : Role) → Short (role_kinds how ++ names_kinds names ++ colon ∷ type_kinds of ++ semicolon ∷ []) ts m4 → Frugal item_kinds item_aside (item.Declare how names of r.1) ts m4
    of_role how h =
        let b = saves-names m0 names m1 hn in
        let p = saves-type n m2 of m3 ht in
        declare-saved how names of r.1 b.alike p.alike h

    go : AnyOf roles r.0 → Frugal item_kinds item_aside (item.Declare r.0 names of r.1) ts m4
    go (inl b) = let P : Role → Type 0 = λ how. Frugal item_kinds item_aside (item.Declare how names of r.1) ts m4 in subst P (sym b) (of_role role.Abstract (counted w.word_abstract))
    go (inr (inl b)) = let P : Role → Type 0 = λ how. Frugal item_kinds item_aside (item.Declare how names of r.1) ts m4 in subst P (sym b) (of_role role.Input (counted w.word_input))
    go (inr (inr (inl b))) = let P : Role → Type 0 = λ how. Frugal item_kinds item_aside (item.Declare how names of r.1) ts m4 in subst P (sym b) (of_role role.Output (counted w.word_output))
    go (inr (inr (inr b))) = absurd b
saves-declaration n ts z rest (inr (names, m1, hn, (a2, m2, h2, (of, m3, ht, (a4, m4, h4, (e, q)))))) =
    let b = saves-names ts names m1 hn in
    let p = saves-type n m2 of m3 ht in
    finish e q (declare-saved role.Plain names of (place_of names) b.alike p.alike (cat (cat b.short (sign-before colon a2 h2 p.short)) (sign-before semicolon a4 h4 (nil m4))))

saves-instance : (n : ℕ) → Saves (g.instance f n (inner n)) item_kinds item_aside
saves-instance n ts z rest (names, m0, hn, (a1, m1, h1, (m, m2, hm, (a3, m3, h3, (args, m4, ha, (a5, m5, h5, (a6, m6, h6, (e, r)))))))) =
    let b = saves-names ts names m0 hn in
    let p = saves-separated_or_none {r = (inner n).expr} expr_kinds expr_aside (inner-expr n) m3 args m4 ha in
    finish e r (record {
      alike = ap item_kinds (a.item-Instance names m args (place_of names)) ∙ k.item-Instance (map word_aside names) (word_aside m) (map expr_aside args) 0
          ∙ ap (λ (ks : Kinds). ks ++ colon ∷ Ident m.name ∷ open_paren ∷ listed expr_kinds (map expr_aside args) ++ close_paren ∷ semicolon ∷ []) b.alike
          ∙ ap (λ (ks : Kinds). names_kinds names ++ colon ∷ Ident m.name ∷ open_paren ∷ ks ++ close_paren ∷ semicolon ∷ []) p.alike ∙ sym (k.item-Instance names m args (place_of names));
      short = same-kinds (sym (k.item-Instance names m args (place_of names)))
          (cat (cat b.short (sign-before colon a1 h1 (name-before m hm (opener-before n open_paren a3 h3 p.short)))) (sign-before close_paren a5 h5 (sign-before semicolon a6 h6 (nil m6))));
    })

saves-layer : (n : ℕ) → Saves (g.layer f n (inner n)) item_kinds item_aside
saves-layer n ts z rest (at, m0, h0, (x, m1, hx, (a2, m2, h2, (a3, m3, h3, (body, m4, hb, (a5, m5, h5, (e, r))))))) =
    let b = saves-many {r = (inner n).stmt} stmt_kinds stmt_aside (inner-stmt n) m3 body m4 hb in
    finish e r (record {
      alike = ap item_kinds (a.item-Layer x body at) ∙ k.item-Layer (word_aside x) (map stmt_aside body) 0
          ∙ ap (λ (ks : Kinds). w.word_layer ∷ Ident x.name ∷ colon ∷ open_brace ∷ ks ++ close_brace ∷ []) b.alike ∙ sym (k.item-Layer x body at);
      short = same-kinds (sym (k.item-Layer x body at)) (cat (sign-before w.word_layer at h0 (name-before x hx (sign-before colon a2 h2 (opener-before n open_brace a3 h3 b.short)))) (sign-before close_brace a5 h5 (nil m5)));
    })

body-saved : (n : ℕ) → Inside n → Saves (g.body_rule f n (inner n)) item_kinds item_aside
body-saved n i ts z rest (inl h) = saves-declaration n ts z rest h
body-saved n i ts z rest (inr (inl h)) = saves-instance n ts z rest h
body-saved n i ts z rest (inr (inr (inl h))) = saves-layer n ts z rest h
body-saved n i ts z rest (inr (inr (inr h))) = item-saved n i ts z rest h

insides : (n : ℕ) → Inside n
insides zero = record { item = λ ts z rest h. absurd h; body = λ ts z rest h. absurd h }
insides (suc n) = let i = insides n in record { item = item-saved n i; body = body-saved n i }

-- ---- tops and texts

extent-short : (ts : Tokens) (x : Option Span × ℕ) (rest : Tokens) → g.extent ts x rest → Short (c.extent x.0) ts rest
extent-short ts x rest (inl (at, m0, h, (e, r))) = let P : Option Span × ℕ → Type 0 = λ y. Short (c.extent y.0) ts rest in subst P e (same-end r (sign-before w.word_undefined at h (nil m0)))
extent-short ts x rest (inr (v, m0, h, (e, r))) = let P : Option Span × ℕ → Type 0 = λ y. Short (c.extent y.0) ts rest in subst P e (same-end r (span-short ts v m0 h))

saves-top : (n : ℕ) → Saves (g.top_rule f n (inner n)) top_kinds top_aside
saves-top n ts z rest (inl (a0, m0, h0, (x, m1, hx, (o, m2, ho, (a3, m3, h3, (e, r)))))) =
    finish e r (record { alike = refl; short = cat (sign-before w.word_scalarset a0 h0 (name-before x hx (extent-short m1 o m2 ho))) (sign-before semicolon a3 h3 (nil m3)) })
saves-top n ts z rest (inr (inl (a0, m0, h0, (x, m1, hx, (at, m2, h2, (a3, m3, h3, (e, r))))))) =
    finish e r (record { alike = refl; short = sign-before w.word_ordset a0 h0 (name-before x hx (sign-before w.word_undefined at h2 (sign-before semicolon a3 h3 (nil m3)))) })
saves-top n ts z rest (inr (inr (inl (at, m0, h0, (x, m1, hx, (of, m2, ht, (a3, m3, h3, (e, r)))))))) =
    let b = saves-type n m1 of m2 ht in
    finish e r (record {
      alike = ap (λ (ks : Kinds). w.word_typedef ∷ Ident x.name ∷ ks ++ semicolon ∷ []) b.alike;
      short = cat (sign-before w.word_typedef at h0 (name-before x hx b.short)) (sign-before semicolon a3 h3 (nil m3));
    })
saves-top n ts z rest (inr (inr (inr (at, m0, h0, (x, m1, hx, (a2, m2, h2, (formals, m3, hf, (a4, m4, h4, (a5, m5, h5, (body, m6, hb, (a7, m7, h7, (e, r)))))))))))) =
    let i = insides n in
    let b = saves-names_or_none m2 formals m3 hf in
    let p = saves-many {r = (inner n).body} item_kinds item_aside i.body m5 body m6 hb in
    finish e r (record {
      alike = ap (λ (ks : Kinds). w.word_module ∷ Ident x.name ∷ open_paren ∷ ks ++ close_paren ∷ [] ++ open_brace ∷ flat_map item_kinds (map item_aside body) ++ close_brace ∷ []) b.alike
          ∙ ap (λ (ks : Kinds). c.heading x formals ++ open_brace ∷ ks ++ close_brace ∷ []) p.alike;
      short = cat (cat (cat (sign-before w.word_module at h0 (name-before x hx (opener-before n open_paren a2 h2 b.short))) (sign-before close_paren a4 h4 (nil m4))) (opener-before n open_brace a5 h5 p.short))
          (sign-before close_brace a7 h7 (nil m7));
    })

pub saves-text : (n : ℕ) → Saves (g.text_rule f n) (flat_map top_kinds) (map top_aside)
saves-text n = saves-many {r = g.top_rule f n (inner n)} top_kinds top_aside (saves-top n)
