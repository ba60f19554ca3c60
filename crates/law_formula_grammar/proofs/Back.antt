-- What is spelled by the grammar that takes the formulas from their list is spelled with these formulas, where no two tokens stand at one offset.
use Rattle.std.proofs.Common.{◌≡◌, ℕ, zero, suc, List, [], ◌∷◌, ◌++◌, map, flat_map, Some, None, inl, inr, refl, sym, ap, ◌∙◌, subst}
use Rattle.std.proofs.lemmas.List.{map-append}
use Rattle.std.proofs.lemmas.List.Concat.{flat_map-append}
use Rattle.law_lists.proofs.Each.{each_append}
use Rattle.law_lists.proofs.Options.{some_is}
use Rattle.smv_core.specs.declared.token.Token.{Token}
use Rattle.smv_core.specs.declared.tree.Word.{Word}
use Rattle.smv_core.specs.declared.tree.Expr.{Expr}
use Rattle.smv_core.specs.declared.tree.Expr as expr
use Rattle.smv_core.specs.declared.tree.Role.TheVariants as role
use Rattle.smv_core.specs.declared.tree.Item.{Item}
use Rattle.smv_core.specs.declared.tree.Item.TheVariants as item
use Rattle.smv_core.specs.declared.tree.Top.{Top}
use Rattle.smv_core.specs.declared.tree.Top.TheVariants as top
use Rattle.smv_core.specs.Signs.{semicolon}
use Rattle.smv_core.specs.Notation.{Tokens, Rule, many, placed, token}
use Rattle.smv_core.specs.Grammar as g
use Rattle.smv_core.specs.Grammar.{Rules, below}
use Rattle.law_formulas.specs.Formulas.{Formula, now, next, when, weak, FormulaText, at_place, of_body}
use Rattle.law_fresh_monitors.specs.Spots.{NoneTwice}
use Rattle.law_formula_texts.specs.Spelled.{body_for, claim_rule, item_with, body_with, top_with, below_with, formula_rule, places_in, places_of_top, if_found, with_formula, SpellsFormulas}
use Rattle.law_formula_grammar.specs.Grammar.{Formulas, With, bare, trees, all_formulas, body_of, listed, text_of, formula_below, formula_at, claim, item_rule, body_rule, item_below, body_below, top_rule, text_rule}
use Rattle.law_formula_grammar.specs.Spelling.{SpellsBy}
use Rattle.law_formula_grammar.proofs.Among.{core}
use Rattle.law_formula_grammar.proofs.Same.{HasAll, offsets, has-all, places-Forall, places-Block, offsets-once}

module _ (G : Formulas) where
  core-back : (floor : ℕ → ℕ) (n : ℕ) (P : Rules → Type 0) → P (core (below_with G floor n).0) → P (core (below floor n))
  core-back floor zero P p = p
  core-back floor (suc n) P p = core-back floor n (λ r. P (core (g.rules floor n r))) p

  -- What is spelled of a tree is spelled with formulas that the list has, in the order of its places.
  record Found {A : Type 0} (rule : Rule (With A)) (places : List ℕ) (ts : Tokens) (x : A) (rest : Tokens) : Type 0 where
    own : Formulas
    spelled : rule ts (x, own) rest
    has : HasAll G own
    same : offsets own ≡ flat_map (with_formula G) places

  -- the same of several
  record FoundAll {A : Type 0} (rule : Rule (With A)) (places : List ℕ) (ts : Tokens) (xs : List A) (rest : Tokens) : Type 0 where
    items : List (With A)
    are : trees items ≡ xs
    spelled : many rule ts items rest
    has : HasAll G (all_formulas items)
    same : offsets (all_formulas items) ≡ flat_map (with_formula G) places

  module _ {A : Type 0} (rule : Rule (With A)) (old : Rule A) (places : A → List ℕ) (one : (ts : Tokens) (x : A) (rest : Tokens) → old ts x rest → Found rule (places x) ts x rest) where
    many-found : (ts : Tokens) (xs : List A) (rest : Tokens) → many old ts xs rest → FoundAll rule (flat_map places xs) ts xs rest
    many-found ts [] rest e = record { items = []; are = refl; spelled = e; has = tt; same = refl }
    many-found ts (x ∷ xs) rest (middle, p, q) =
        let a = one ts x middle p in
        let b = many-found middle xs rest q in
        record {
          items = (x, a.own) ∷ b.items;
          are = ap (λ l. x ∷ l) b.are;
          spelled = (middle, a.spelled, b.spelled);
          has = each_append (λ (entry : ℕ × Formula). at_place G entry.0 ≡ Some entry.1) a.own (all_formulas b.items) a.has b.has;
          same = map-append (λ (entry : ℕ × Formula). entry.0) a.own (all_formulas b.items) ∙ (ap (λ l. l ++ offsets (all_formulas b.items)) a.same ∙ (ap (λ l. flat_map (with_formula G) (places x) ++ l) b.same ∙ sym (flat_map-append (with_formula G) (places x) (flat_map places xs))));
        }

  -- ---- formulas

  formula-back : (floor : ℕ → ℕ) (n : ℕ) → ((ts : Tokens) (f : Formula) (rest : Tokens) → (below_with G floor n).1 ts f rest → formula_below floor n ts f rest)
      → (ts : Tokens) (f : Formula) (rest : Tokens) → formula_rule floor n (below_with G floor n).0 (below_with G floor n).1 ts f rest → formula_at floor n ts f rest
  formula-back floor n deeper ts f rest (inl (at, m0, p0, (o, m1, p1, (h, m2, p2, more)))) = inl (at, m0, p0, (o, m1, p1, (h, m2, deeper m1 h m2 p2, more)))
  formula-back floor n deeper ts f rest (inr (inl (at, m0, p0, (c, m1, p1, (h, m2, p2, more))))) = inr (inl (at, m0, p0, (c, m1, core-back floor n (λ r. r.condition m0 c m1) p1, (h, m2, deeper m1 h m2 p2, more))))
  formula-back floor n deeper ts f rest (inr (inr (inl (at, m0, p0, (o, m1, p1, (a, m2, p2, (c, m3, p3, (b, m4, p4, more)))))))) =
      inr (inr (inl (at, m0, p0, (o, m1, p1, (a, m2, core-back floor n (λ r. r.expr m1 a m2) p2, (c, m3, p3, (b, m4, core-back floor n (λ r. r.expr m3 b m4) p4, more)))))))
  formula-back floor n deeper ts f rest (inr (inr (inr (e, m0, p0, more)))) = inr (inr (inr (e, m0, core-back floor n (λ r. g.expr_rule floor n r ts e m0) p0, more)))

  below-back : (floor : ℕ → ℕ) (n : ℕ) (ts : Tokens) (f : Formula) (rest : Tokens) → (below_with G floor n).1 ts f rest → formula_below floor n ts f rest
  below-back floor zero ts f rest h = absurd h
  below-back floor (suc n) ts f rest h = formula-back floor n (below-back floor n) ts f rest h

  placed-back : (floor : ℕ → ℕ) (n : ℕ) (ts : Tokens) (f : Formula × ℕ) (rest : Tokens) → placed (formula_rule floor n (below_with G floor n).0 (below_with G floor n).1) ts f rest → placed (formula_at floor n) ts f rest
  placed-back floor n [] f rest p = absurd p
  placed-back floor n (t ∷ ts) f rest (p, at) = (formula-back floor n (below-back floor n) (t ∷ ts) f.0 rest p, at)

  -- ---- claims

  none-there : (x : Word) (vars : List Word) (place : ℕ) (e : Expr) → of_body G e ≡ None → [] ≡ flat_map (with_formula G) (places_in (item.Claim x vars e place))
  none-there x vars place (expr.Number v at) h = sym (ap (λ o. if_found at o ++ []) h)
  none-there x vars place e h = refl

  -- the body of a claim, for the formula that stands at an offset
  record Body (x : Word) (vars : List Word) (place : ℕ) (f : Formula) (at : ℕ) (ts : Tokens) (body : Expr) (rest : Tokens) : Type 0 where
    is : body_of f at ≡ body
    ends : ts ≡ rest
    has : HasAll G (listed f at)
    same : offsets (listed f at) ≡ flat_map (with_formula G) (places_in (item.Claim x vars (body_of f at) place))

  body-back : (x : Word) (vars : List Word) (place : ℕ) (f : Formula) (at : ℕ) (ts : Tokens) (body : Expr) (rest : Tokens) → body_for G f at ts body rest → Body x vars place f at ts body rest
  body-back x vars place (now e) at ts body rest (none, (is, ends)) = record { is = is; ends = ends; has = tt; same = none-there x vars place e none }
  body-back x vars place (next i f) at ts body rest (found, (is, ends)) = record { is = is; ends = ends; has = (found, tt); same = sym (ap (λ o. if_found at o ++ []) found) }
  body-back x vars place (when c f) at ts body rest (found, (is, ends)) = record { is = is; ends = ends; has = (found, tt); same = sym (ap (λ o. if_found at o ++ []) found) }
  body-back x vars place (weak p q) at ts body rest (found, (is, ends)) = record { is = is; ends = ends; has = (found, tt); same = sym (ap (λ o. if_found at o ++ []) found) }

  module _ (floor : ℕ → ℕ) (n : ℕ) where
    claim-back : (ts : Tokens) (y : Item) (rest : Tokens) → claim_rule floor n (below_with G floor n).0 (below_with G floor n).1 G ts y rest → Found (claim floor n) (places_in y) ts y rest
    claim-back ts y rest (x, m0, p0, (vars, m1, p1, (c, m2, p2, (a, m3, p3, (q, m4, p4, (f, m5, p5, (body, m6, p6, (e, m7, p7, (eq, r))))))))) =
        let b = body-back x vars x.at f.0 f.1 m5 body m6 p6 in
        let is : item.Claim x vars (body_of f.0 f.1) x.at ≡ y = ap (λ z. item.Claim x vars z x.at) b.is ∙ eq in
        record {
          own = listed f.0 f.1;
          spelled = (
            x,
            m0,
            p0,
            (
              vars,
              m1,
              core-back floor n (λ z. many (g.in_brackets floor n z) m0 vars m1) p1,
              (
                c,
                m2,
                p2,
                (
                  a,
                  m3,
                  p3,
                  (
                    q,
                    m4,
                    p4,
                    (
                      f,
                      m5,
                      placed-back floor n m4 f m5 p5,
                      (e, m7, subst (λ us. token semicolon us e m7) (sym b.ends) p7, (ap (λ (z : Item). (z, listed f.0 f.1)) is, r)),
                    ),
                  ),
                ),
              ),
            ),
          );
          has = b.has;
          same = subst (λ z. offsets (listed f.0 f.1) ≡ flat_map (with_formula G) (places_in z)) is b.same;
        }

    -- ---- items

    abbrev Inner : Type 0
    Inner = (ts : Tokens) (x : Item) (rest : Tokens) → (below_with G floor n).0.item ts x rest → Found (item_below floor n) (places_in x) ts x rest

    -- what has no claim
    bare-back : (rule : Rule (With Item)) (ts : Tokens) (x : Item) (rest : Tokens) → places_in x ≡ [] → rule ts (bare x) rest → Found rule (places_in x) ts x rest
    bare-back rule ts x rest none p = record { own = []; spelled = p; has = tt; same = ap (flat_map (with_formula G)) (sym none) }

    item-back : Inner → (ts : Tokens) (y : Item) (rest : Tokens) → item_with floor n (below_with G floor n).0 (below_with G floor n).1 G ts y rest → Found (item_rule floor n (item_below floor n)) (places_in y) ts y rest
    item-back inner ts y rest (inl (at, m0, p0, (b, m1, p1, (body, m2, p2, (eq, r))))) =
        let u = inner m1 body m2 p2 in
        record {
          own = u.own;
          spelled = inl (at, m0, p0, (b, m1, core-back floor n (λ z. z.binder m0 b m1) p1, ((body, u.own), m2, u.spelled, (ap (λ (z : Item). (z, u.own)) eq, r))));
          has = u.has;
          same = subst (λ z. offsets u.own ≡ flat_map (with_formula G) (places_in z)) eq (u.same ∙ sym (ap (flat_map (with_formula G)) (places-Forall b.0 b.1 body at)));
        }
    item-back inner ts y rest (inr (inl (at, m0, p0, (xs, m1, p1, (c, m2, p2, (eq, r)))))) =
        let u = many-found (item_below floor n) (below_with G floor n).0.item places_in inner m0 xs m1 p1 in
        record {
          own = all_formulas u.items;
          spelled = inr (inl (at, m0, p0, (u.items, m1, u.spelled, (c, m2, p2, (ap (λ (z : List Item). (item.Block z, all_formulas u.items)) u.are ∙ ap (λ (z : Item). (z, all_formulas u.items)) eq, r)))));
          has = u.has;
          same = subst (λ z. offsets (all_formulas u.items) ≡ flat_map (with_formula G) (places_in z)) eq (u.same ∙ sym (ap (flat_map (with_formula G)) (places-Block xs)));
        }
    item-back inner ts y rest (inr (inr (inl p))) = let u = claim-back ts y rest p in record { own = u.own; spelled = inr (inr (inl u.spelled)); has = u.has; same = u.same }
    item-back inner ts y rest (inr (inr (inr (inl (at, m0, p0, (name, m1, p1, (xs, m2, p2, (c, m3, p3, (s, m4, p4, (d, m5, p5, (ps, m6, p6, (e, m7, p7, (eq, r))))))))))))) =
        let h : g.split floor n (below_with G floor n).0 ts y rest = (at, m0, p0, (name, m1, p1, (xs, m2, p2, (c, m3, p3, (s, m4, p4, (d, m5, p5, (ps, m6, p6, (e, m7, p7, (eq, r))))))))) in
        bare-back (item_rule floor n (item_below floor n)) ts y rest (subst (λ z. places_in z ≡ []) eq refl) (inr (inr (inr (inl (y, rest, core-back floor n (λ z. g.split floor n z ts y rest) h, (refl, refl))))))
    item-back inner ts y rest (inr (inr (inr (inr (inl (at, m0, p0, (us, m1, p1, (c, m2, p2, (rs, m3, p3, (e, m4, p4, (eq, r))))))))))) =
        let h : g.using floor n (below_with G floor n).0 ts y rest = (at, m0, p0, (us, m1, p1, (c, m2, p2, (rs, m3, p3, (e, m4, p4, (eq, r)))))) in
        bare-back (item_rule floor n (item_below floor n)) ts y rest (subst (λ z. places_in z ≡ []) eq refl) (inr (inr (inr (inr (inl (y, rest, core-back floor n (λ z. g.using floor n z ts y rest) h, (refl, refl)))))))
    item-back inner ts y rest (inr (inr (inr (inr (inr (act, last, h, (eq, r))))))) =
        bare-back (item_rule floor n (item_below floor n)) ts y rest (subst (λ z. places_in z ≡ []) eq refl) (inr (inr (inr (inr (inr (act, last, core-back floor n (λ z. g.simple floor n z ts act last) h, (ap bare eq, r)))))))

    -- ---- bodies

    body-rule-back : Inner → (ts : Tokens) (y : Item) (rest : Tokens) → body_with floor n (below_with G floor n).0 (below_with G floor n).1 G ts y rest → Found (body_rule floor n (item_below floor n)) (places_in y) ts y rest
    body-rule-back inner ts y rest (inl (inl (how, m0, p0, (xs, m1, p1, (c, m2, p2, (of, m3, p3, (s, m4, p4, (eq, r)))))))) =
        let h : g.declared floor n (below_with G floor n).0 how.0 (λ names. how.1) m0 y rest = (xs, m1, p1, (c, m2, p2, (of, m3, p3, (s, m4, p4, (eq, r))))) in
        bare-back (body_rule floor n (item_below floor n)) ts y rest (subst (λ z. places_in z ≡ []) eq refl) (inl (y, rest, inl (how, m0, p0, core-back floor n (λ z. g.declared floor n z how.0 (λ names. how.1) m0 y rest) h), (refl, refl)))
    body-rule-back inner ts y rest (inl (inr (xs, m1, p1, (c, m2, p2, (of, m3, p3, (s, m4, p4, (eq, r))))))) =
        let h : g.declared floor n (below_with G floor n).0 role.Plain g.place_of ts y rest = (xs, m1, p1, (c, m2, p2, (of, m3, p3, (s, m4, p4, (eq, r))))) in
        bare-back (body_rule floor n (item_below floor n)) ts y rest (subst (λ z. places_in z ≡ []) eq refl) (inl (y, rest, inr (core-back floor n (λ z. g.declared floor n z role.Plain g.place_of ts y rest) h), (refl, refl)))
    body-rule-back inner ts y rest (inr (inl (xs, m0, p0, (c, m1, p1, (name, m2, p2, (o, m3, p3, (es, m4, p4, (d, m5, p5, (s, m6, p6, (eq, r)))))))))) =
        let h : g.instance floor n (below_with G floor n).0 ts y rest = (xs, m0, p0, (c, m1, p1, (name, m2, p2, (o, m3, p3, (es, m4, p4, (d, m5, p5, (s, m6, p6, (eq, r)))))))) in
        bare-back (body_rule floor n (item_below floor n)) ts y rest (subst (λ z. places_in z ≡ []) eq refl) (inr (inl (y, rest, core-back floor n (λ z. g.instance floor n z ts y rest) h, (refl, refl))))
    body-rule-back inner ts y rest (inr (inr (inl (at, m0, p0, (name, m1, p1, (c, m2, p2, (o, m3, p3, (xs, m4, p4, (d, m5, p5, (eq, r)))))))))) =
        let h : g.layer floor n (below_with G floor n).0 ts y rest = (at, m0, p0, (name, m1, p1, (c, m2, p2, (o, m3, p3, (xs, m4, p4, (d, m5, p5, (eq, r))))))) in
        bare-back (body_rule floor n (item_below floor n)) ts y rest (subst (λ z. places_in z ≡ []) eq refl) (inr (inr (inl (y, rest, core-back floor n (λ z. g.layer floor n z ts y rest) h, (refl, refl)))))
    body-rule-back inner ts y rest (inr (inr (inr p))) = let u = item-back inner ts y rest p in record { own = u.own; spelled = inr (inr (inr u.spelled)); has = u.has; same = u.same }

  items-back : (floor : ℕ → ℕ) (n : ℕ) → Inner floor n
  items-back floor zero ts x rest p = absurd p
  items-back floor (suc n) ts x rest p = item-back floor n (items-back floor n) ts x rest p

  bodies-back : (floor : ℕ → ℕ) (n : ℕ) (ts : Tokens) (x : Item) (rest : Tokens) → (below_with G floor n).0.body ts x rest → Found (body_below floor n) (places_in x) ts x rest
  bodies-back floor zero ts x rest p = absurd p
  bodies-back floor (suc n) ts x rest p = body-rule-back floor n (items-back floor n) ts x rest p

  -- ---- the text

  top-back : (floor : ℕ → ℕ) (n : ℕ) (ts : Tokens) (y : Top) (rest : Tokens) → top_with floor n (below_with G floor n).0 (below_with G floor n).1 G ts y rest → Found (top_rule floor n) (places_of_top y) ts y rest
  top-back floor n ts y rest (inl (s, m0, p0, (x, m1, p1, (o, m2, p2, (e, m3, p3, (eq, r)))))) =
      record { own = []; spelled = inl (s, m0, p0, (x, m1, p1, (o, m2, p2, (e, m3, p3, (ap bare eq, r))))); has = tt; same = subst (λ z. [] ≡ flat_map (with_formula G) (places_of_top z)) eq refl }
  top-back floor n ts y rest (inr (inl (s, m0, p0, (x, m1, p1, (o, m2, p2, (e, m3, p3, (eq, r))))))) =
      record { own = []; spelled = inr (inl (s, m0, p0, (x, m1, p1, (o, m2, p2, (e, m3, p3, (ap bare eq, r)))))); has = tt; same = subst (λ z. [] ≡ flat_map (with_formula G) (places_of_top z)) eq refl }
  top-back floor n ts y rest (inr (inr (inl (at, m0, p0, (x, m1, p1, (of, m2, p2, (e, m3, p3, (eq, r)))))))) =
      record {
        own = [];
        spelled = inr (inr (inl (at, m0, p0, (x, m1, p1, (of, m2, core-back floor n (λ z. g.type_rule floor n z m1 of m2) p2, (e, m3, p3, (ap bare eq, r)))))));
        has = tt;
        same = subst (λ z. [] ≡ flat_map (with_formula G) (places_of_top z)) eq refl;
      }
  top-back floor n ts y rest (inr (inr (inr (at, m0, p0, (x, m1, p1, (o, m2, p2, (formals, m3, p3, (c, m4, p4, (b, m5, p5, (items, m6, p6, (e, m7, p7, (eq, r)))))))))))) =
      let u = many-found (body_below floor n) (below_with G floor n).0.body places_in (bodies-back floor n) m5 items m6 p6 in
      record {
        own = all_formulas u.items;
        spelled = inr (inr (inr (
          at,
          m0,
          p0,
          (
            x,
            m1,
            p1,
            (
              o,
              m2,
              p2,
              (
                formals,
                m3,
                p3,
                (
                  c,
                  m4,
                  p4,
                  (
                    b,
                    m5,
                    p5,
                    (
                      u.items,
                      m6,
                      u.spelled,
                      (
                        e,
                        m7,
                        p7,
                        (ap (λ (z : List Item). (top.Module x formals z at, all_formulas u.items)) u.are ∙ ap (λ (z : Top). (z, all_formulas u.items)) eq, r),
                      ),
                    ),
                  ),
                ),
              ),
            ),
          ),
        )));
        has = u.has;
        same = subst (λ z. offsets (all_formulas u.items) ≡ flat_map (with_formula G) (places_of_top z)) eq u.same;
      }

-- two lists that have the same offsets, at each of which a third list has both
same-list : (G fs gs : Formulas) → offsets fs ≡ offsets gs → HasAll G fs → HasAll G gs → fs ≡ gs
same-list G [] [] e h k = refl
same-list G [] (entry ∷ gs) e h k = absurd cc
same-list G (entry ∷ fs) [] e h k = absurd cc
same-list G ((at, f) ∷ fs) ((place, p) ∷ gs) e h k =
    let first : at ≡ place = cc in
    let more : offsets fs ≡ offsets gs = cc in
    let own : f ≡ p = some_is (sym h.0 ∙ (ap (at_place G) first ∙ k.0)) in
    ap (λ (z : ℕ). (z, f) ∷ fs) first ∙ (ap (λ (z : Formula). (place, z) ∷ fs) own ∙ ap (λ (z : Formulas). (place, p) ∷ z) (same-list G fs gs more h.1 k.1))

pub back-text : (n : ℕ) (ts : Tokens) (ft : FormulaText) → NoneTwice (map (λ (t : Token). t.at) ts) → SpellsFormulas n ts ft → SpellsBy text_rule n ts ft
back-text n ts ft once spelled = (u.items, [], u.spelled, (are, refl))
  where
    u : FoundAll ft.formulas (top_rule (λ at. 0) n) (flat_map places_of_top ft.text.tops) ts ft.text.tops []
    u = many-found ft.formulas (top_rule (λ at. 0) n) (top_with (λ at. 0) n (below_with ft.formulas (λ at. 0) n).0 (below_with ft.formulas (λ at. 0) n).1 ft.formulas) places_of_top (top-back ft.formulas (λ at. 0) n) ts ft.text.tops [] spelled.text

    offsets-same : offsets (all_formulas u.items) ≡ offsets ft.formulas
    offsets-same = u.same ∙ sym spelled.formulas

    formulas-same : all_formulas u.items ≡ ft.formulas
    formulas-same = same-list ft.formulas (all_formulas u.items) ft.formulas offsets-same u.has (has-all ft.formulas (subst NoneTwice offsets-same (offsets-once n ts u.items [] once u.spelled)))

    make : List Top → Formulas → FormulaText
    make tops formulas = record { text = record { tops = tops }; formulas = formulas }

    are : text_of u.items ≡ ft
    are = ap (λ (z : List Top). make z (all_formulas u.items)) u.are ∙ ap (make ft.text.tops) formulas-same
