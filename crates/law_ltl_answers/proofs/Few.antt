-- A text has no more formulas than tokens: the claim of each has a semicolon.
use Rattle.std.proofs.Common.{◌≡◌, ◌≤◌, ◌+◌, ℕ, zero, suc, List, [], ◌∷◌, ◌++◌, map, flat_map, length, Option, inl, inr, Some, None, refl, sym, ap, subst, arith}
use Rattle.smv_core.specs.declared.token.Token.{Token}
use Rattle.smv_core.specs.declared.token.TokenKind.{TokenKind}
use Rattle.smv_core.specs.declared.token.TokenKind.TheVariants.{Ident, Number, Sign, Reserved}
use Rattle.smv_core.specs.declared.tree.Word.{Word}
use Rattle.smv_core.specs.declared.tree.Expr.{Expr}
use Rattle.smv_core.specs.declared.tree.Expr as expr
use Rattle.smv_core.specs.declared.tree.Item.{Item}
use Rattle.smv_core.specs.declared.tree.Item.TheVariants as item
use Rattle.smv_core.specs.declared.tree.Top.{Top}
use Rattle.smv_core.specs.Signs.{open_paren, close_paren, open_brace, close_brace, colon, semicolon}
use Rattle.smv_core.specs.Signs as w
use Rattle.smv_core.specs.Notation.{Tokens, Rule, many, placed, token, name, separated_or_none, opener}
use Rattle.smv_core.specs.Grammar as g
use Rattle.smv_core.specs.Grammar.{Rules}
use Rattle.law_formulas.specs.Formulas.{Formula, now, next, when, weak, FormulaText, at_place}
use Rattle.law_fresh_monitors.specs.Names.{IsOldName}
use Rattle.law_formula_texts.specs.Spelled.{body_for, formula_rule, claim_rule, item_with, body_with, top_with, below_with, places_in, places_of_top, if_found, with_formula, SpellsFormulas}
use Rattle.law_formula_texts.proofs.Rules.{KindOk, Any, NameHas, many-gives, token-gives, name-gives, opener-gives, or_none-gives}
use Rattle.law_formula_texts.proofs.Productions.{Given, brackets-gives}
use Rattle.law_formula_texts.proofs.Texts.{IsGood, below-good, top-gives}
use Rattle.law_formula_grammar.proofs.Same.{places-Forall, places-Block}

length-both : {A : Type 0} (xs ys : List A) → length (xs ++ ys) ≡ length xs + length ys
length-both [] ys = omega arith
length-both (x ∷ xs) ys = let r = length-both xs ys in omega (arith, r)

no-more : (n m : ℕ) → n ≤ m → 0 + n ≤ m
no-more n m l = omega (arith, l)

token-takes : (kind : TokenKind) (ts : Tokens) (at : ℕ) (rest : Tokens) → token kind ts at rest → length rest + 1 ≤ length ts
token-takes kind [] at rest p = absurd p
token-takes kind (t ∷ ts) at rest p = let same : length ts ≡ length rest = ap (λ (us : Tokens). length us) p.1 in omega (arith, same)

module _ (formulas : List (ℕ × Formula)) where
  abbrev count : Tokens → ℕ
  count ts = length ts

  -- so many at most
  abbrev AtMost : ℕ → Tokens → Type 0
  AtMost m ts = count ts ≤ m

  rests : (m : ℕ) (t : Token) (ts : Tokens) → AtMost m (t ∷ ts) → AtMost m ts
  rests m t ts h = omega (arith, h)

  any-kind : (kind : TokenKind) → KindOk (IsOldName []) kind
  any-kind (Ident bytes) = refl
  any-kind (Number value) = tt
  any-kind (Sign i) = tt
  any-kind (Reserved i) = tt

  kinds : (m : ℕ) (t : Token) (ts : Tokens) → AtMost m (t ∷ ts) → KindOk (IsOldName []) t.kind
  kinds m t ts h = any-kind t.kind

  abbrev GivenAt : ℕ → {A : Type 0} → (A → Type 0) → Rule A → Type 0
  GivenAt m P r = Given [] (AtMost m) (rests m) (kinds m) P r

  -- no more behind what a rule takes
  abbrev Shrinks : {A : Type 0} → Rule A → Type 0
  Shrinks {A} r = (ts : Tokens) (a : A) (rest : Tokens) → r ts a rest → count rest ≤ count ts

  shrinks : {A : Type 0} (P : ℕ → A → Type 0) (r : Rule A) → ((m : ℕ) → GivenAt m (P m) r) → Shrinks r
  shrinks P r h ts a rest x = (h (count ts) ts a rest x (omega arith)).1

  token-shrinks : (kind : TokenKind) → Shrinks (token kind)
  token-shrinks kind = shrinks (λ m. Any) (token kind) (λ m. token-gives (IsOldName []) (AtMost m) (rests m) (kinds m) kind)

  name-shrinks : Shrinks name
  name-shrinks = shrinks (λ m. NameHas (IsOldName [])) name (λ m. name-gives (IsOldName []) (AtMost m) (rests m) (kinds m))

  opener-shrinks : (floor : ℕ → ℕ) (n : ℕ) (kind : TokenKind) → Shrinks (opener floor n kind)
  opener-shrinks floor n kind = shrinks (λ m. Any) (opener floor n kind) (λ m. opener-gives (IsOldName []) (AtMost m) (rests m) (kinds m) floor n kind)

  -- ---- what an item counts

  abbrev cost : Item → ℕ
  cost x = length (places_in x)

  abbrev costs : List Item → ℕ
  costs xs = length (flat_map places_in xs)

  -- what a rule spells counts no more than the tokens that it takes
  abbrev Spends : Rule Item → Type 0
  Spends r = (ts : Tokens) (x : Item) (rest : Tokens) → r ts x rest → cost x + count rest ≤ count ts

  many-spends : (r : Rule Item) → Spends r → (ts : Tokens) (xs : List Item) (rest : Tokens) → many r ts xs rest → costs xs + count rest ≤ count ts
  many-spends r h ts [] rest e = subst (λ us. 0 + count us ≤ count ts) e (omega arith)
  many-spends r h ts (x ∷ xs) rest (middle, p, q) =
      let a = h ts x middle p in
      let b = many-spends r h middle xs rest q in
      let both = length-both (places_in x) (flat_map places_in xs) in
      omega (arith, a, b, both)

  cost-Block : (xs : List Item) → cost (item.Block xs) ≡ costs xs
  cost-Block xs = ap (λ (l : List ℕ). length l) (places-Block xs)

  -- the end of a rule
  close : (x y : Item) (us rest ts : Tokens) → x ≡ y → us ≡ rest → cost x + count us ≤ count ts → cost y + count rest ≤ count ts
  close x y us rest ts e f h = subst (λ z. cost z + count rest ≤ count ts) e (subst (λ vs. cost x + count vs ≤ count ts) f h)

  -- what has no formula counts nothing
  free-of : (x y : Item) (rest ts : Tokens) → x ≡ y → places_in x ≡ [] → count rest ≤ count ts → cost y + count rest ≤ count ts
  free-of x y rest ts e none h = subst (λ z. cost z + count rest ≤ count ts) e (subst (λ (l : List ℕ). length l + count rest ≤ count ts) (sym none) (no-more (count rest) (count ts) h))

  -- ---- claims

  claim-cost : (x : Word) (vars : List Word) (e : Expr) (at : ℕ) → cost (item.Claim x vars e at) ≤ 1
  claim-cost x vars (expr.Number value place) at = omega arith
  claim-cost x vars e at = omega arith

  body-takes : (f : Formula) (at : ℕ) (ts : Tokens) (body : Expr) (rest : Tokens) → body_for formulas f at ts body rest → count ts ≡ count rest
  body-takes (now e) at ts body rest (free, (q, r)) = ap count r
  body-takes (next place f) at ts body rest (found, (q, r)) = ap count r
  body-takes (when c f) at ts body rest (found, (q, r)) = ap count r
  body-takes (weak p q) at ts body rest (found, (e, r)) = ap count r

  module _ (floor : ℕ → ℕ) (n : ℕ) where
    abbrev inner : Rules × Rule Formula
    inner = below_with formulas floor n

    good : (m : ℕ) → IsGood [] (AtMost m) (rests m) (kinds m) formulas inner
    good m = below-good [] (AtMost m) (rests m) (kinds m) formulas floor n

    next-good : (m : ℕ) → IsGood [] (AtMost m) (rests m) (kinds m) formulas (below_with formulas floor (suc n))
    next-good m = below-good [] (AtMost m) (rests m) (kinds m) formulas floor (suc n)

    deeper-shrinks : Shrinks inner.1
    deeper-shrinks = shrinks _ inner.1 (λ m. (good m).inner_formula)

    condition-shrinks : Shrinks inner.0.condition
    condition-shrinks = shrinks _ inner.0.condition (λ m. (good m).plain.condition_good)

    expr-shrinks : Shrinks inner.0.expr
    expr-shrinks = shrinks _ inner.0.expr (λ m. (good m).plain.expr_good)

    binder-shrinks : Shrinks inner.0.binder
    binder-shrinks = shrinks _ inner.0.binder (λ m. (good m).plain.binder_good)

    formula-shrinks : Shrinks (formula_rule floor n inner.0 inner.1)
    formula-shrinks = shrinks _ (formula_rule floor n inner.0 inner.1) (λ m. (next-good m).inner_formula)

    brackets-shrink : Shrinks (many (g.in_brackets floor n inner.0))
    brackets-shrink = shrinks _ (many (g.in_brackets floor n inner.0)) (λ m. many-gives (IsOldName []) (AtMost m) (rests m) (kinds m) (NameHas (IsOldName [])) (g.in_brackets floor n inner.0) (brackets-gives [] (AtMost m) (rests m) (kinds m) floor n inner.0 (good m).plain))

    placed-shrinks : (ts : Tokens) (f : Formula × ℕ) (rest : Tokens) → placed (formula_rule floor n inner.0 inner.1) ts f rest → count rest ≤ count ts
    placed-shrinks [] f rest p = absurd p
    placed-shrinks (t ∷ ts) f rest p = formula-shrinks (t ∷ ts) f.0 rest p.0

    claim-spends : Spends (claim_rule floor n inner.0 inner.1 formulas)
    claim-spends ts y rest (x, m0, p0, (vars, m1, p1, (c, m2, p2, (s, m3, p3, (q, m4, p4, (f, m5, p5, (body, m6, p6, (e, m7, p7, (eq, r))))))))) =
        let a = name-shrinks ts x m0 p0 in
        let b = brackets-shrink m0 vars m1 p1 in
        let d = token-shrinks colon m1 c m2 p2 in
        let h = token-shrinks w.word_assert m2 s m3 p3 in
        let i = token-shrinks w.word_G m3 q m4 p4 in
        let j = placed-shrinks m4 f m5 p5 in
        let k = body-takes f.0 f.1 m5 body m6 p6 in
        let l = token-takes semicolon m6 e m7 p7 in
        let one = claim-cost x vars body x.at in
        close (item.Claim x vars body x.at) y m7 rest ts eq r (omega (arith, a, b, d, h, i, j, k, l, one))

    -- ---- items

    item-shrinks : Shrinks (item_with floor n inner.0 inner.1 formulas)
    item-shrinks = shrinks _ (item_with floor n inner.0 inner.1 formulas) (λ m. (next-good m).inner_item)

    body-shrinks : Shrinks (body_with floor n inner.0 inner.1 formulas)
    body-shrinks = shrinks _ (body_with floor n inner.0 inner.1 formulas) (λ m. (next-good m).inner_body)

    item-spends : Spends inner.0.item → Spends (item_with floor n inner.0 inner.1 formulas)
    item-spends deeper ts y rest (inl (at, m0, p0, (b, m1, p1, (body, m2, p2, (eq, r))))) =
        let a = opener-shrinks floor n w.word_forall ts at m0 p0 in
        let c = binder-shrinks m0 b m1 p1 in
        let d = deeper m1 body m2 p2 in
        let same = ap (λ (l : List ℕ). length l) (places-Forall b.0 b.1 body at) in
        close (item.Forall b.0 b.1 body at) y m2 rest ts eq r (omega (arith, a, c, d, same))
    item-spends deeper ts y rest (inr (inl (at, m0, p0, (xs, m1, p1, (c, m2, p2, (eq, r)))))) =
        let a = opener-shrinks floor n open_brace ts at m0 p0 in
        let b = many-spends inner.0.item deeper m0 xs m1 p1 in
        let d = token-shrinks close_brace m1 c m2 p2 in
        let same = cost-Block xs in
        close (item.Block xs) y m2 rest ts eq r (omega (arith, a, b, d, same))
    item-spends deeper ts y rest (inr (inr (inl p))) = claim-spends ts y rest p
    item-spends deeper ts y rest (inr (inr (inr (inl (at, m0, p0, (x, m1, p1, (xs, m2, p2, (c, m3, p3, (s, m4, p4, (d, m5, p5, (ps, m6, p6, (e, m7, p7, (eq, r))))))))))))) =
        free-of (item.Split x xs s ps at) y rest ts eq refl (item-shrinks ts y rest (inr (inr (inr (inl (at, m0, p0, (x, m1, p1, (xs, m2, p2, (c, m3, p3, (s, m4, p4, (d, m5, p5, (ps, m6, p6, (e, m7, p7, (eq, r))))))))))))))
    item-spends deeper ts y rest (inr (inr (inr (inr (inl (at, m0, p0, (us, m1, p1, (c, m2, p2, (rs, m3, p3, (e, m4, p4, (eq, r))))))))))) =
        free-of (item.Using us rs at) y rest ts eq refl (item-shrinks ts y rest (inr (inr (inr (inr (inl (at, m0, p0, (us, m1, p1, (c, m2, p2, (rs, m3, p3, (e, m4, p4, (eq, r))))))))))))
    item-spends deeper ts y rest (inr (inr (inr (inr (inr (act, m0, p0, (eq, r))))))) =
        free-of (item.Act act) y rest ts eq refl (item-shrinks ts y rest (inr (inr (inr (inr (inr (act, m0, p0, (eq, r))))))))

    body-rule-spends : Spends inner.0.item → Spends (body_with floor n inner.0 inner.1 formulas)
    body-rule-spends deeper ts y rest (inl (inl (role, m0, p0, (xs, m1, p1, (c, m2, p2, (of, m3, p3, (s, m4, p4, (eq, r)))))))) =
        free-of (item.Declare role.0 xs of role.1) y rest ts eq refl (body-shrinks ts y rest (inl (inl (role, m0, p0, (xs, m1, p1, (c, m2, p2, (of, m3, p3, (s, m4, p4, (eq, r)))))))))
    body-rule-spends deeper ts y rest (inl (inr (xs, m1, p1, (c, m2, p2, (of, m3, p3, (s, m4, p4, (eq, r))))))) =
        free-of (item.Declare _ xs of (g.place_of xs)) y rest ts eq refl (body-shrinks ts y rest (inl (inr (xs, m1, p1, (c, m2, p2, (of, m3, p3, (s, m4, p4, (eq, r))))))))
    body-rule-spends deeper ts y rest (inr (inl (xs, m0, p0, (c, m1, p1, (x, m2, p2, (o, m3, p3, (es, m4, p4, (d, m5, p5, (s, m6, p6, (eq, r)))))))))) =
        free-of (item.Instance xs x es (g.place_of xs)) y rest ts eq refl (body-shrinks ts y rest (inr (inl (xs, m0, p0, (c, m1, p1, (x, m2, p2, (o, m3, p3, (es, m4, p4, (d, m5, p5, (s, m6, p6, (eq, r)))))))))))
    body-rule-spends deeper ts y rest (inr (inr (inl (at, m0, p0, (x, m1, p1, (c, m2, p2, (o, m3, p3, (xs, m4, p4, (d, m5, p5, (eq, r)))))))))) =
        free-of (item.Layer x xs at) y rest ts eq refl (body-shrinks ts y rest (inr (inr (inl (at, m0, p0, (x, m1, p1, (c, m2, p2, (o, m3, p3, (xs, m4, p4, (d, m5, p5, (eq, r)))))))))))
    body-rule-spends deeper ts y rest (inr (inr (inr p))) = item-spends deeper ts y rest p

  items-spend : (floor : ℕ → ℕ) (n : ℕ) → Spends (below_with formulas floor n).0.item
  items-spend floor zero ts x rest p = absurd p
  items-spend floor (suc n) ts x rest p = item-spends floor n (items-spend floor n) ts x rest p

  bodies-spend : (floor : ℕ → ℕ) (n : ℕ) → Spends (below_with formulas floor n).0.body
  bodies-spend floor zero ts x rest p = absurd p
  bodies-spend floor (suc n) ts x rest p = body-rule-spends floor n (items-spend floor n) ts x rest p

  -- ---- the text

  module _ (floor : ℕ → ℕ) (n : ℕ) where
    abbrev the_top : Rule Top
    the_top = top_with floor n (below_with formulas floor n).0 (below_with formulas floor n).1 formulas

    top-shrinks : Shrinks the_top
    top-shrinks = shrinks _ the_top (λ m. top-gives [] (AtMost m) (rests m) (kinds m) formulas floor n)

    formals-shrink : Shrinks (separated_or_none name)
    formals-shrink = shrinks _ (separated_or_none name) (λ m. or_none-gives (IsOldName []) (AtMost m) (rests m) (kinds m) (NameHas (IsOldName [])) name (name-gives (IsOldName []) (AtMost m) (rests m) (kinds m)))

    top-spends : (ts : Tokens) (y : Top) (rest : Tokens) → the_top ts y rest → length (places_of_top y) + count rest ≤ count ts
    top-spends ts y rest (inl (s, m0, p0, (x, m1, p1, (o, m2, p2, (e, m3, p3, (eq, r)))))) = subst (λ z. length (places_of_top z) + count rest ≤ count ts) eq (no-more (count rest) (count ts) (top-shrinks ts y rest (inl (s, m0, p0, (x, m1, p1, (o, m2, p2, (e, m3, p3, (eq, r))))))))
    top-spends ts y rest (inr (inl (s, m0, p0, (x, m1, p1, (o, m2, p2, (e, m3, p3, (eq, r))))))) = subst (λ z. length (places_of_top z) + count rest ≤ count ts) eq (no-more (count rest) (count ts) (top-shrinks ts y rest (inr (inl (s, m0, p0, (x, m1, p1, (o, m2, p2, (e, m3, p3, (eq, r)))))))))
    top-spends ts y rest (inr (inr (inl (s, m0, p0, (x, m1, p1, (o, m2, p2, (e, m3, p3, (eq, r)))))))) = subst (λ z. length (places_of_top z) + count rest ≤ count ts) eq (no-more (count rest) (count ts) (top-shrinks ts y rest (inr (inr (inl (s, m0, p0, (x, m1, p1, (o, m2, p2, (e, m3, p3, (eq, r))))))))))
    top-spends ts y rest (inr (inr (inr (at, m0, p0, (x, m1, p1, (o, m2, p2, (xs, m3, p3, (c, m4, p4, (b, m5, p5, (body, m6, p6, (e, m7, p7, (eq, r)))))))))))) =
        let a0 = token-shrinks w.word_module ts at m0 p0 in
        let a1 = name-shrinks m0 x m1 p1 in
        let a2 = opener-shrinks floor n open_paren m1 o m2 p2 in
        let a3 = formals-shrink m2 xs m3 p3 in
        let a4 = token-shrinks close_paren m3 c m4 p4 in
        let a5 = opener-shrinks floor n open_brace m4 b m5 p5 in
        let a6 = many-spends (below_with formulas floor n).0.body (bodies-spend floor n) m5 body m6 p6 in
        let a7 = token-shrinks close_brace m6 e m7 p7 in
        subst (λ z. length (places_of_top z) + count rest ≤ count ts) eq (subst (λ vs. costs body + count vs ≤ count ts) r (omega (arith, a0, a1, a2, a3, a4, a5, a6, a7)))

    tops-spend : (ts : Tokens) (tops : List Top) (rest : Tokens) → many the_top ts tops rest → length (flat_map places_of_top tops) + count rest ≤ count ts
    tops-spend ts [] rest e = subst (λ us. 0 + count us ≤ count ts) e (omega arith)
    tops-spend ts (y ∷ tops) rest (middle, p, q) =
        let a = top-spends ts y middle p in
        let b = tops-spend middle tops rest q in
        let both = length-both (places_of_top y) (flat_map places_of_top tops) in
        omega (arith, a, b, both)

-- of these offsets those that have a formula
few-found : (formulas : List (ℕ × Formula)) (places : List ℕ) → length (flat_map (with_formula formulas) places) ≤ length places
few-found formulas [] = omega arith
few-found formulas (at ∷ places) = by_found (at_place formulas at) (few-found formulas places)
  where
    by_found : (o : Option Formula) → length (flat_map (with_formula formulas) places) ≤ length places → length (if_found at o ++ flat_map (with_formula formulas) places) ≤ suc (length places)
    by_found None h = omega (arith, h)
    by_found (Some f) h = omega (arith, h)

same-length : (formulas : List (ℕ × Formula)) → length (map (λ entry. entry.0) formulas) ≡ length formulas
same-length [] = refl
same-length (entry ∷ formulas) = ap suc (same-length formulas)

-- no more formulas than tokens
pub few-formulas : (n : ℕ) (ts : Tokens) (ft : FormulaText) → SpellsFormulas n ts ft → length ft.formulas ≤ length ts
few-formulas n ts ft spelled =
    let a = tops-spend ft.formulas (λ at. 0) n ts ft.text.tops [] spelled.text in
    let b = few-found ft.formulas (flat_map places_of_top ft.text.tops) in
    let c = ap (λ (l : List ℕ). length l) spelled.formulas in
    let d = same-length ft.formulas in
    omega (arith, a, b, c, d)
