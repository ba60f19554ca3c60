-- No two formulas stand at one offset where no two tokens do: each is counted by its first token.
use Rattle.std.proofs.Common.{◌≡◌, ◌≤◌, ◌+◌, ℕ, zero, suc, List, [], ◌∷◌, ◌++◌, map, flat_map, inl, inr, Some, None, Bool, true, false, ◌||◌, cond, nat_eq, refl, sym, ap, ◌∙◌, subst, arith, true≢false}
use Rattle.std.specs.List.{list_any}
use Rattle.std.proofs.lemmas.List.{map-append}
use Rattle.law_lists.proofs.Numbers.{nat_eq-is, nat_eq-same}
use Rattle.smv_core.specs.FlatOrder.{modules}
use Rattle.smv_core.specs.declared.token.Token.{Token}
use Rattle.smv_core.specs.declared.token.TokenKind.{TokenKind}
use Rattle.smv_core.specs.declared.token.TokenKind.TheVariants.{Ident, Number, Sign, Reserved}
use Rattle.smv_core.specs.declared.tree.Word.{Word}
use Rattle.smv_core.specs.declared.tree.TypeExpr.{TypeExpr}
use Rattle.smv_core.specs.declared.tree.Expr.{Expr}
use Rattle.smv_core.specs.declared.tree.Expr as expr
use Rattle.smv_core.specs.declared.tree.Item.{Item, Row_of-Item, end_of-Item, more_of-Item, items-the_row-Item, items_hidden-the_row-Item-1}
use Rattle.smv_core.specs.declared.tree.Item.TheVariants as item
use Rattle.smv_core.specs.declared.tree.Top.{Top}
use Rattle.smv_core.specs.declared.tree.Top.TheVariants as top
use Rattle.smv_core.specs.Signs.{open_paren, close_paren, open_brace, close_brace, colon, semicolon, comma}
use Rattle.smv_core.specs.Signs as w
use Rattle.smv_core.specs.Notation.{Tokens, Rule, many, placed, token, name, separated_or_none, opener}
use Rattle.smv_core.specs.Grammar as g
use Rattle.smv_core.specs.Grammar.{Rules}
use Rattle.law_places.proofs.Computing.{computing}
use Rattle.law_designs.proofs.WrittenForms.{items_in}
use Rattle.law_formulas.specs.Formulas.{Formula, now, next, when, weak, at_place, of_body}
use Rattle.law_formulas.specs.Monitors.{Around}
use Rattle.law_fresh_monitors.specs.Names.{IsOldName}
use Rattle.law_fresh_monitors.specs.Spots.{spot_at, spots_in, spots_among, spots, NoneTwice}
use Rattle.law_formula_texts.specs.Spelled.{body_for, formula_rule, claim_rule, item_with, body_with, top_with, below_with}
use Rattle.law_formula_texts.specs.Laws.{FormulasStandOnce}
use Rattle.law_formula_texts.proofs.Rules.{KindOk, Any, NameHas, many-gives, token-gives, name-gives, opener-gives, or_none-gives}
use Rattle.law_formula_texts.proofs.Productions.{Given, brackets-gives}
use Rattle.law_formula_texts.proofs.Texts.{IsGood, below-good, top-gives}

-- ---- how often a number stands in a list

abbrev pub times : ℕ → List ℕ → ℕ
times k [] = 0
times k (n ∷ ns) = cond (nat_eq k n) (suc (times k ns)) (times k ns)

pub times-append : (k : ℕ) (xs ys : List ℕ) → times k (xs ++ ys) ≡ times k xs + times k ys
times-append k [] ys = omega arith
times-append k (x ∷ xs) ys = by_test (nat_eq k x) (times-append k xs ys)
  where
    by_test : (b : Bool) → times k (xs ++ ys) ≡ times k xs + times k ys → cond b (suc (times k (xs ++ ys))) (times k (xs ++ ys)) ≡ cond b (suc (times k xs)) (times k xs) + times k ys
    by_test true r = omega (arith, r)
    by_test false r = r

times-none : (k : ℕ) (ns : List ℕ) → list_any (nat_eq k) ns ≡ false → times k ns ≡ 0
times-none k [] h = refl
times-none k (n ∷ ns) h = by_test (nat_eq k n) h (times-none k ns)
  where
    by_test : (b : Bool) → b || list_any (nat_eq k) ns ≡ false → (list_any (nat_eq k) ns ≡ false → times k ns ≡ 0) → cond b (suc (times k ns)) (times k ns) ≡ 0
    by_test true e rest = absurd (true≢false e)
    by_test false e rest = rest e

none-times : (k : ℕ) (ns : List ℕ) → times k ns ≤ 0 → list_any (nat_eq k) ns ≡ false
none-times k [] h = refl
none-times k (n ∷ ns) h = by_test (nat_eq k n) h (none-times k ns)
  where
    by_test : (b : Bool) → cond b (suc (times k ns)) (times k ns) ≤ 0 → (times k ns ≤ 0 → list_any (nat_eq k) ns ≡ false) → b || list_any (nat_eq k) ns ≡ false
    by_test true e rest = absurd (omega (arith, e))
    by_test false e rest = rest e

pub at-most-once : (k : ℕ) (ns : List ℕ) → NoneTwice ns → times k ns ≤ 1
at-most-once k [] h = omega arith
at-most-once k (n ∷ ns) h = by_test (nat_eq k n) refl (at-most-once k ns h.1)
  where
    by_test : (b : Bool) → nat_eq k n ≡ b → times k ns ≤ 1 → cond b (suc (times k ns)) (times k ns) ≤ 1
    by_test false e rest = rest
    by_test true e rest =
        let zero_times : times k ns ≡ 0 = times-none k ns (subst (λ m. list_any (nat_eq m) ns ≡ false) (sym (nat_eq-is k n e)) h.0) in
        omega (arith, zero_times)

pub none-twice : (ns : List ℕ) → ((k : ℕ) → times k ns ≤ 1) → NoneTwice ns
none-twice [] h = tt
none-twice (n ∷ ns) h = (none-times n ns (rest_of (h n)), none-twice ns (λ k. fewer k (nat_eq k n) (h k)))
  where
    rest_of : cond (nat_eq n n) (suc (times n ns)) (times n ns) ≤ 1 → times n ns ≤ 0
    rest_of l = let one = subst (λ b. cond b (suc (times n ns)) (times n ns) ≤ 1) (nat_eq-same n n refl) l in omega (arith, one)

    fewer : (k : ℕ) (b : Bool) → cond b (suc (times k ns)) (times k ns) ≤ 1 → times k ns ≤ 1
    fewer k true l = omega (arith, l)
    fewer k false l = l

no-more : (n m : ℕ) → n ≤ m → 0 + n ≤ m
no-more n m l = omega (arith, l)

-- ---- counted by tokens

module _ (formulas : List (ℕ × Formula)) (k : ℕ) where
  abbrev count : Tokens → ℕ
  count ts = times k (map (λ (t : Token). t.at) ts)

  -- so many at most
  abbrev AtMost : ℕ → Tokens → Type 0
  AtMost m ts = count ts ≤ m

  rests : (m : ℕ) (t : Token) (ts : Tokens) → AtMost m (t ∷ ts) → AtMost m ts
  rests m t ts h = by_test (nat_eq k t.at) h
    where
      by_test : (b : Bool) → cond b (suc (count ts)) (count ts) ≤ m → count ts ≤ m
      by_test true l = omega (arith, l)
      by_test false l = l

  any-kind : (kind : TokenKind) → KindOk (IsOldName []) kind
  any-kind (Ident bytes) = refl
  any-kind (Number value) = tt
  any-kind (Sign i) = tt
  any-kind (Reserved i) = tt

  kinds : (m : ℕ) (t : Token) (ts : Tokens) → AtMost m (t ∷ ts) → KindOk (IsOldName []) t.kind
  kinds m t ts h = any-kind t.kind

  abbrev GivenAt : ℕ → {A : Type 0} → (A → Type 0) → Rule A → Type 0
  GivenAt m P r = Given [] (AtMost m) (rests m) (kinds m) P r

  -- no more behind what a rule takes
  abbrev Shrinks : {A : Type 0} → Rule A → Type 0
  Shrinks {A} r = (ts : Tokens) (a : A) (rest : Tokens) → r ts a rest → count rest ≤ count ts

  shrinks : {A : Type 0} (P : ℕ → A → Type 0) (r : Rule A) → ((m : ℕ) → GivenAt m (P m) r) → Shrinks r
  shrinks P r h ts a rest x = (h (count ts) ts a rest x (omega arith)).1

  token-shrinks : (kind : TokenKind) → Shrinks (token kind)
  token-shrinks kind = shrinks (λ m. Any) (token kind) (λ m. token-gives (IsOldName []) (AtMost m) (rests m) (kinds m) kind)

  name-shrinks : Shrinks name
  name-shrinks = shrinks (λ m. NameHas (IsOldName [])) name (λ m. name-gives (IsOldName []) (AtMost m) (rests m) (kinds m))

  opener-shrinks : (floor : ℕ → ℕ) (n : ℕ) (kind : TokenKind) → Shrinks (opener floor n kind)
  opener-shrinks floor n kind = shrinks (λ m. Any) (opener floor n kind) (λ m. opener-gives (IsOldName []) (AtMost m) (rests m) (kinds m) floor n kind)

  -- ---- what an item counts

  abbrev counted : List (ℕ × Around) → ℕ
  counted list = times k (map (λ spot. spot.0) list)

  counted-append : (xs ys : List (ℕ × Around)) → counted (xs ++ ys) ≡ counted xs + counted ys
  counted-append xs ys = ap (times k) (map-append (λ spot. spot.0) xs ys) ∙ times-append k (map (λ spot. spot.0) xs) (map (λ spot. spot.0) ys)

  abbrev cost : Around → Item → ℕ
  cost around x = counted (spots_in formulas around x)

  abbrev costs : Around → List Item → ℕ
  costs around xs = counted (flat_map (spots_in formulas around) xs)

  -- what a rule spells counts no more than the tokens that it takes
  abbrev Spends : Rule Item → Type 0
  Spends r = (ts : Tokens) (x : Item) (rest : Tokens) → r ts x rest → (around : Around) → cost around x + count rest ≤ count ts

  many-spends : (r : Rule Item) → Spends r → (ts : Tokens) (xs : List Item) (rest : Tokens) → many r ts xs rest → (around : Around) → costs around xs + count rest ≤ count ts
  many-spends r h ts [] rest e around = subst (λ us. 0 + count us ≤ count ts) e (omega arith)
  many-spends r h ts (x ∷ xs) rest (middle, p, q) around =
      let a = h ts x middle p around in
      let b = many-spends r h middle xs rest q around in
      let both = counted-append (spots_in formulas around x) (flat_map (spots_in formulas around) xs) in
      omega (arith, a, b, both)

  cost-Forall : (around : Around) (var : Word) (over : TypeExpr) (body : Item) (at : ℕ) → cost around (item.Forall var over body at) ≡ cost (around ++ (var, over) ∷ []) body
  unfolding computing
  cost-Forall around var over body at = refl

  spots-row : (around : Around) (n : _) (row : Row_of-Item n) → spots_among formulas around row ≡ flat_map (spots_in formulas around) (items-the_row-Item n row)
  spots-row around n end_of-Item = refl
  spots-row around n (more_of-Item x rest) = ap (λ l. spots_in formulas around x ++ l) (spots-row around _ rest)

  cost-Block : (around : Around) (xs : List Item) → cost around (item.Block xs) ≡ costs around xs
  cost-Block around xs = ap counted (spots-row around (items_in (item.Block xs)).0 (items_in (item.Block xs)).1 ∙ ap (flat_map (spots_in formulas around)) (items_hidden-the_row-Item-1 xs))

  -- the end of a rule
  close : (around : Around) (x y : Item) (us rest ts : Tokens) → x ≡ y → us ≡ rest → cost around x + count us ≤ count ts → cost around y + count rest ≤ count ts
  close around x y us rest ts e f h = subst (λ z. cost around z + count rest ≤ count ts) e (subst (λ vs. cost around x + count vs ≤ count ts) f h)

  -- what has no formula counts nothing
  free-of : (around : Around) (x y : Item) (rest ts : Tokens) → x ≡ y → spots_in formulas around x ≡ [] → count rest ≤ count ts → cost around y + count rest ≤ count ts
  free-of around x y rest ts e none h = subst (λ z. cost around z + count rest ≤ count ts) e (subst (λ l. counted l + count rest ≤ count ts) (sym none) (no-more (count rest) (count ts) h))

  -- ---- claims

  spots-none : (around : Around) (x : Word) (vars : List Word) (e : Expr) (at : ℕ) → of_body formulas e ≡ None → spots_in formulas around (item.Claim x vars e at) ≡ []
  spots-none around x vars (expr.Number value place) at h = ap (spot_at place around) h
  spots-none around x vars e at h = refl

  abbrev IsLater : Formula → Type 0
  IsLater (now e) = ⊥
  IsLater f = Unit {0}

  module _ (floor : ℕ → ℕ) (n : ℕ) where
    abbrev inner : Rules × Rule Formula
    inner = below_with formulas floor n

    good : (m : ℕ) → IsGood [] (AtMost m) (rests m) (kinds m) formulas inner
    good m = below-good [] (AtMost m) (rests m) (kinds m) formulas floor n

    next-good : (m : ℕ) → IsGood [] (AtMost m) (rests m) (kinds m) formulas (below_with formulas floor (suc n))
    next-good m = below-good [] (AtMost m) (rests m) (kinds m) formulas floor (suc n)

    deeper-shrinks : Shrinks inner.1
    deeper-shrinks = shrinks _ inner.1 (λ m. (good m).inner_formula)

    condition-shrinks : Shrinks inner.0.condition
    condition-shrinks = shrinks _ inner.0.condition (λ m. (good m).plain.condition_good)

    expr-shrinks : Shrinks inner.0.expr
    expr-shrinks = shrinks _ inner.0.expr (λ m. (good m).plain.expr_good)

    binder-shrinks : Shrinks inner.0.binder
    binder-shrinks = shrinks _ inner.0.binder (λ m. (good m).plain.binder_good)

    formula-shrinks : Shrinks (formula_rule floor n inner.0 inner.1)
    formula-shrinks = shrinks _ (formula_rule floor n inner.0 inner.1) (λ m. (next-good m).inner_formula)

    brackets-shrink : Shrinks (many (g.in_brackets floor n inner.0))
    brackets-shrink = shrinks _ (many (g.in_brackets floor n inner.0)) (λ m. many-gives (IsOldName []) (AtMost m) (rests m) (kinds m) (NameHas (IsOldName [])) (g.in_brackets floor n inner.0) (brackets-gives [] (AtMost m) (rests m) (kinds m) floor n inner.0 (good m).plain))

    -- a formula that is no expression takes its first token, and leaves no more than there is behind that
    takes-first : (t : Token) (us : Tokens) (f : Formula) (rest : Tokens) → formula_rule floor n inner.0 inner.1 (t ∷ us) f rest → IsLater f → count rest ≤ count us
    takes-first t us f rest (inl (at, m0, p0, (o, m1, p1, (h, m2, p2, (c, m3, p3, (eq, r)))))) later =
        let a = opener-shrinks floor n open_paren m0 o m1 p1 in
        let b = deeper-shrinks m1 h m2 p2 in
        let d = token-shrinks close_paren m2 c m3 p3 in
        let begun : count m0 ≡ count us = ap count (sym p0.1) in
        let ended : count m3 ≡ count rest = ap count r in
        omega (arith, a, b, d, begun, ended)
    takes-first t us f rest (inr (inl (at, m0, (o, i0, p0, (u, i1, (lt, (e0, e1)), (e2, e3))), (c, m1, p1, (h, m2, p2, (eq, r)))))) later =
        let b = condition-shrinks m0 c m1 p1 in
        let d = deeper-shrinks m1 h m2 p2 in
        let begun : count m0 ≡ count us = ap count (sym (p0.1 ∙ e1 ∙ e3)) in
        let ended : count m2 ≡ count rest = ap count r in
        omega (arith, b, d, begun, ended)
    takes-first t us f rest (inr (inr (inl (at, m0, p0, (o, m1, p1, (p, m2, p2, (c, m3, p3, (q, m4, p4, (d, m5, p5, (eq, r)))))))))) later =
        let a = opener-shrinks floor n open_paren m0 o m1 p1 in
        let b = expr-shrinks m1 p m2 p2 in
        let s = token-shrinks comma m2 c m3 p3 in
        let e = expr-shrinks m3 q m4 p4 in
        let v = token-shrinks close_paren m4 d m5 p5 in
        let begun : count m0 ≡ count us = ap count (sym p0.1) in
        let ended : count m5 ≡ count rest = ap count r in
        omega (arith, a, b, s, e, v, begun, ended)
    takes-first t us f rest (inr (inr (inr (e, m0, p0, (eq, r))))) later = absurd (subst IsLater (sym eq) later)

    -- a formula that is no expression counts once, at its first token
    later-spends : (around : Around) (x : Word) (vars : List Word) (at : ℕ) (t : Token) (us : Tokens) (f : Formula) (rest : Tokens) → count rest ≤ count us → (body : Expr) (after : Tokens) → at_place formulas t.at ≡ Some f →
        expr.Number 1 t.at ≡ body → rest ≡ after → cost around (item.Claim x vars body at) + count after ≤ count (t ∷ us)
    later-spends around x vars at t us f rest small body after found q r =
        subst (λ y. cost around (item.Claim x vars y at) + count after ≤ count (t ∷ us)) q
        (subst (λ o. counted (spot_at t.at around o) + count after ≤ count (t ∷ us)) (sym found)
        (subst (λ vs. counted (spot_at t.at around (Some f)) + count vs ≤ count (t ∷ us)) r (by_test (nat_eq k t.at) small)))
      where
        by_test : (b : Bool) → count rest ≤ count us → cond b (suc 0) 0 + count rest ≤ cond b (suc (count us)) (count us)
        by_test true l = omega (arith, l)
        by_test false l = omega (arith, l)

    -- the body of a claim counts its formula once, at its first token
    body-spends : (around : Around) (x : Word) (vars : List Word) (at : ℕ) (t : Token) (us : Tokens) (f : Formula) (rest : Tokens) → formula_rule floor n inner.0 inner.1 (t ∷ us) f rest →
        (body : Expr) (after : Tokens) → body_for formulas f t.at rest body after → cost around (item.Claim x vars body at) + count after ≤ count (t ∷ us)
    body-spends around x vars at t us (now e) rest p body after (free, (q, r)) =
        let small = formula-shrinks (t ∷ us) (now e) rest p in
        let ended : count rest ≡ count after = ap count r in
        free-of around (item.Claim x vars e at) (item.Claim x vars body at) after (t ∷ us) (ap (λ y. item.Claim x vars y at) q) (spots-none around x vars e at free) (omega (arith, small, ended))
    body-spends around x vars at t us (next place f) rest p body after (found, (q, r)) = later-spends around x vars at t us (next place f) rest (takes-first t us (next place f) rest p tt) body after found q r
    body-spends around x vars at t us (when c f) rest p body after (found, (q, r)) = later-spends around x vars at t us (when c f) rest (takes-first t us (when c f) rest p tt) body after found q r
    body-spends around x vars at t us (weak a b) rest p body after (found, (q, r)) = later-spends around x vars at t us (weak a b) rest (takes-first t us (weak a b) rest p tt) body after found q r

    claim-spends : Spends (claim_rule floor n inner.0 inner.1 formulas)
    claim-spends ts y rest (x, m0, p0, (vars, m1, p1, (c, m2, p2, (s, m3, p3, (q, m4, p4, (f, m5, p5, (body, m6, p6, (e, m7, p7, (eq, r))))))))) around = by_tokens m4 p5 p6 behind
      where
        behind : count m4 ≤ count ts
        behind =
            let a = name-shrinks ts x m0 p0 in
            let b = brackets-shrink m0 vars m1 p1 in
            let d = token-shrinks colon m1 c m2 p2 in
            let h = token-shrinks w.word_assert m2 s m3 p3 in
            let i = token-shrinks w.word_G m3 q m4 p4 in
            omega (arith, a, b, d, h, i)

        by_tokens : (us : Tokens) → placed (formula_rule floor n inner.0 inner.1) us f m5 → body_for formulas f.0 f.1 m5 body m6 → count us ≤ count ts → cost around y + count rest ≤ count ts
        by_tokens [] p b l = absurd p
        by_tokens (t ∷ us) (p, place) b l =
            let a = body-spends around x vars x.at t us f.0 m5 p body m6 (subst (λ o. body_for formulas f.0 o m5 body m6) place b) in
            let d = token-shrinks semicolon m6 e m7 p7 in
            close around (item.Claim x vars body x.at) y m7 rest ts eq r (omega (arith, a, d, l))

    -- ---- items

    item-shrinks : Shrinks (item_with floor n inner.0 inner.1 formulas)
    item-shrinks = shrinks _ (item_with floor n inner.0 inner.1 formulas) (λ m. (next-good m).inner_item)

    body-shrinks : Shrinks (body_with floor n inner.0 inner.1 formulas)
    body-shrinks = shrinks _ (body_with floor n inner.0 inner.1 formulas) (λ m. (next-good m).inner_body)

    item-spends : Spends inner.0.item → Spends (item_with floor n inner.0 inner.1 formulas)
    item-spends deeper ts y rest (inl (at, m0, p0, (b, m1, p1, (body, m2, p2, (eq, r))))) around =
        let a = opener-shrinks floor n w.word_forall ts at m0 p0 in
        let c = binder-shrinks m0 b m1 p1 in
        let d = deeper m1 body m2 p2 (around ++ (b.0, b.1) ∷ []) in
        let same = cost-Forall around b.0 b.1 body at in
        close around (item.Forall b.0 b.1 body at) y m2 rest ts eq r (omega (arith, a, c, d, same))
    item-spends deeper ts y rest (inr (inl (at, m0, p0, (xs, m1, p1, (c, m2, p2, (eq, r)))))) around =
        let a = opener-shrinks floor n open_brace ts at m0 p0 in
        let b = many-spends inner.0.item deeper m0 xs m1 p1 around in
        let d = token-shrinks close_brace m1 c m2 p2 in
        let same = cost-Block around xs in
        close around (item.Block xs) y m2 rest ts eq r (omega (arith, a, b, d, same))
    item-spends deeper ts y rest (inr (inr (inl p))) around = claim-spends ts y rest p around
    item-spends deeper ts y rest (inr (inr (inr (inl (at, m0, p0, (x, m1, p1, (xs, m2, p2, (c, m3, p3, (s, m4, p4, (d, m5, p5, (ps, m6, p6, (e, m7, p7, (eq, r))))))))))))) around =
        free-of around (item.Split x xs s ps at) y rest ts eq refl (item-shrinks ts y rest (inr (inr (inr (inl (at, m0, p0, (x, m1, p1, (xs, m2, p2, (c, m3, p3, (s, m4, p4, (d, m5, p5, (ps, m6, p6, (e, m7, p7, (eq, r))))))))))))))
    item-spends deeper ts y rest (inr (inr (inr (inr (inl (at, m0, p0, (us, m1, p1, (c, m2, p2, (rs, m3, p3, (e, m4, p4, (eq, r))))))))))) around =
        free-of around (item.Using us rs at) y rest ts eq refl (item-shrinks ts y rest (inr (inr (inr (inr (inl (at, m0, p0, (us, m1, p1, (c, m2, p2, (rs, m3, p3, (e, m4, p4, (eq, r))))))))))))
    item-spends deeper ts y rest (inr (inr (inr (inr (inr (act, m0, p0, (eq, r))))))) around =
        free-of around (item.Act act) y rest ts eq refl (item-shrinks ts y rest (inr (inr (inr (inr (inr (act, m0, p0, (eq, r))))))))

    body-rule-spends : Spends inner.0.item → Spends (body_with floor n inner.0 inner.1 formulas)
    body-rule-spends deeper ts y rest (inl (inl (role, m0, p0, (xs, m1, p1, (c, m2, p2, (of, m3, p3, (s, m4, p4, (eq, r)))))))) around =
        free-of around (item.Declare role.0 xs of role.1) y rest ts eq refl (body-shrinks ts y rest (inl (inl (role, m0, p0, (xs, m1, p1, (c, m2, p2, (of, m3, p3, (s, m4, p4, (eq, r)))))))))
    body-rule-spends deeper ts y rest (inl (inr (xs, m1, p1, (c, m2, p2, (of, m3, p3, (s, m4, p4, (eq, r))))))) around =
        free-of around (item.Declare _ xs of (g.place_of xs)) y rest ts eq refl (body-shrinks ts y rest (inl (inr (xs, m1, p1, (c, m2, p2, (of, m3, p3, (s, m4, p4, (eq, r))))))))
    body-rule-spends deeper ts y rest (inr (inl (xs, m0, p0, (c, m1, p1, (x, m2, p2, (o, m3, p3, (es, m4, p4, (d, m5, p5, (s, m6, p6, (eq, r)))))))))) around =
        free-of around (item.Instance xs x es (g.place_of xs)) y rest ts eq refl (body-shrinks ts y rest (inr (inl (xs, m0, p0, (c, m1, p1, (x, m2, p2, (o, m3, p3, (es, m4, p4, (d, m5, p5, (s, m6, p6, (eq, r)))))))))))
    body-rule-spends deeper ts y rest (inr (inr (inl (at, m0, p0, (x, m1, p1, (c, m2, p2, (o, m3, p3, (xs, m4, p4, (d, m5, p5, (eq, r)))))))))) around =
        free-of around (item.Layer x xs at) y rest ts eq refl (body-shrinks ts y rest (inr (inr (inl (at, m0, p0, (x, m1, p1, (c, m2, p2, (o, m3, p3, (xs, m4, p4, (d, m5, p5, (eq, r)))))))))))
    body-rule-spends deeper ts y rest (inr (inr (inr p))) around = item-spends deeper ts y rest p around

  items-spend : (floor : ℕ → ℕ) (n : ℕ) → Spends (below_with formulas floor n).0.item
  items-spend floor zero ts x rest p around = absurd p
  items-spend floor (suc n) ts x rest p around = item-spends floor n (items-spend floor n) ts x rest p around

  bodies-spend : (floor : ℕ → ℕ) (n : ℕ) → Spends (below_with formulas floor n).0.body
  bodies-spend floor zero ts x rest p around = absurd p
  bodies-spend floor (suc n) ts x rest p around = body-rule-spends floor n (items-spend floor n) ts x rest p around

  -- ---- the text

  abbrev top_spots : Top → List (ℕ × Around)
  top_spots (top.Module word formals body at) = flat_map (spots_in formulas []) body
  top_spots _ = []

  spots-tops : (tops : List Top) → flat_map (λ entry. flat_map (spots_in formulas []) entry.1.items) (modules tops) ≡ flat_map top_spots tops
  spots-tops [] = refl
  spots-tops (top.SetType word ordered span at ∷ tops) = spots-tops tops
  spots-tops (top.Alias word of at ∷ tops) = spots-tops tops
  spots-tops (top.Module word formals body at ∷ tops) = ap (λ l. flat_map (spots_in formulas []) body ++ l) (spots-tops tops)

  module _ (floor : ℕ → ℕ) (n : ℕ) where
    abbrev the_top : Rule Top
    the_top = top_with floor n (below_with formulas floor n).0 (below_with formulas floor n).1 formulas

    top-shrinks : Shrinks the_top
    top-shrinks = shrinks _ the_top (λ m. top-gives [] (AtMost m) (rests m) (kinds m) formulas floor n)

    formals-shrink : Shrinks (separated_or_none name)
    formals-shrink = shrinks _ (separated_or_none name) (λ m. or_none-gives (IsOldName []) (AtMost m) (rests m) (kinds m) (NameHas (IsOldName [])) name (name-gives (IsOldName []) (AtMost m) (rests m) (kinds m)))

    top-spends : (ts : Tokens) (y : Top) (rest : Tokens) → the_top ts y rest → counted (top_spots y) + count rest ≤ count ts
    top-spends ts y rest (inl (s, m0, p0, (x, m1, p1, (o, m2, p2, (e, m3, p3, (eq, r)))))) = subst (λ z. counted (top_spots z) + count rest ≤ count ts) eq (no-more (count rest) (count ts) (top-shrinks ts y rest (inl (s, m0, p0, (x, m1, p1, (o, m2, p2, (e, m3, p3, (eq, r))))))))
    top-spends ts y rest (inr (inl (s, m0, p0, (x, m1, p1, (o, m2, p2, (e, m3, p3, (eq, r))))))) = subst (λ z. counted (top_spots z) + count rest ≤ count ts) eq (no-more (count rest) (count ts) (top-shrinks ts y rest (inr (inl (s, m0, p0, (x, m1, p1, (o, m2, p2, (e, m3, p3, (eq, r)))))))))
    top-spends ts y rest (inr (inr (inl (s, m0, p0, (x, m1, p1, (o, m2, p2, (e, m3, p3, (eq, r)))))))) = subst (λ z. counted (top_spots z) + count rest ≤ count ts) eq (no-more (count rest) (count ts) (top-shrinks ts y rest (inr (inr (inl (s, m0, p0, (x, m1, p1, (o, m2, p2, (e, m3, p3, (eq, r))))))))))
    top-spends ts y rest (inr (inr (inr (at, m0, p0, (x, m1, p1, (o, m2, p2, (xs, m3, p3, (c, m4, p4, (b, m5, p5, (body, m6, p6, (e, m7, p7, (eq, r)))))))))))) =
        let a0 = token-shrinks w.word_module ts at m0 p0 in
        let a1 = name-shrinks m0 x m1 p1 in
        let a2 = opener-shrinks floor n open_paren m1 o m2 p2 in
        let a3 = formals-shrink m2 xs m3 p3 in
        let a4 = token-shrinks close_paren m3 c m4 p4 in
        let a5 = opener-shrinks floor n open_brace m4 b m5 p5 in
        let a6 = many-spends (below_with formulas floor n).0.body (bodies-spend floor n) m5 body m6 p6 [] in
        let a7 = token-shrinks close_brace m6 e m7 p7 in
        subst (λ z. counted (top_spots z) + count rest ≤ count ts) eq (subst (λ vs. costs [] body + count vs ≤ count ts) r (omega (arith, a0, a1, a2, a3, a4, a5, a6, a7)))

    tops-spend : (ts : Tokens) (tops : List Top) (rest : Tokens) → many the_top ts tops rest → counted (flat_map top_spots tops) + count rest ≤ count ts
    tops-spend ts [] rest e = subst (λ us. 0 + count us ≤ count ts) e (omega arith)
    tops-spend ts (y ∷ tops) rest (middle, p, q) =
        let a = top-spends ts y middle p in
        let b = tops-spend middle tops rest q in
        let both = counted-append (top_spots y) (flat_map top_spots tops) in
        omega (arith, a, b, both)

pub once : FormulasStandOnce
once n ts ft spelled apart = none-twice (map (λ spot. spot.0) (spots ft)) each
  where
    each : (k : ℕ) → times k (map (λ spot. spot.0) (spots ft)) ≤ 1
    each k =
        let a = tops-spend ft.formulas k (λ at. 0) n ts ft.text.tops [] spelled.text in
        let b = at-most-once k (map (λ (t : Token). t.at) ts) apart in
        subst (λ l. times k (map (λ spot. spot.0) l) ≤ 1) (sym (spots-tops ft.formulas k ft.text.tops)) (omega (arith, a, b))
