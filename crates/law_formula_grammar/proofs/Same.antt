-- What is spelled with its formulas is spelled so by the grammar that takes the formulas from their list, where no two tokens stand at one offset.
use Rattle.std.proofs.Common.{◌≡◌, ◌≤◌, ◌+◌, ◌⊎◌, ℕ, zero, suc, Bool, true, false, cond, nat_eq, List, [], ◌∷◌, ◌++◌, map, flat_map, Some, None, inl, inr, refl, sym, ap, ◌∙◌, subst, arith}
use Rattle.std.specs.List.{AllByRecursion, list_any}
use Rattle.std.proofs.lemmas.Bool.{or_parts, or_left, or_right}
use Rattle.std.proofs.lemmas.List.{map-append}
use Rattle.std.proofs.lemmas.List.Concat.{flat_map-append}
use Rattle.law_lists.proofs.Booleans.{impossible}
use Rattle.law_lists.proofs.Numbers.{nat_eq-is, nat_eq-same}
use Rattle.law_lists.proofs.Each.{each_append}
use Rattle.smv_core.specs.declared.token.Token.{Token}
use Rattle.smv_core.specs.declared.token.TokenKind.{TokenKind}
use Rattle.smv_core.specs.declared.token.TokenKind.TheVariants.{Ident, Number, Sign, Reserved}
use Rattle.smv_core.specs.declared.tree.Word.{Word}
use Rattle.smv_core.specs.declared.tree.TypeExpr.{TypeExpr}
use Rattle.smv_core.specs.declared.tree.Expr.{Expr}
use Rattle.smv_core.specs.declared.tree.Expr as expr
use Rattle.smv_core.specs.declared.tree.Role.TheVariants as role
use Rattle.smv_core.specs.declared.tree.Item.{Item, Row_of-Item, end_of-Item, more_of-Item, items-the_row-Item, items_hidden-the_row-Item-1}
use Rattle.smv_core.specs.declared.tree.Item.TheVariants as item
use Rattle.smv_core.specs.declared.tree.Top.{Top}
use Rattle.smv_core.specs.declared.tree.Top.TheVariants as top
use Rattle.smv_core.specs.Signs.{open_paren, close_paren, open_brace, close_brace, colon, semicolon, comma}
use Rattle.smv_core.specs.Signs as w
use Rattle.smv_core.specs.Notation.{Tokens, Rule, many, placed}
use Rattle.smv_core.specs.Grammar as g
use Rattle.smv_core.specs.Grammar.{Rules, below}
use Rattle.law_places.proofs.Computing.{computing}
use Rattle.law_designs.proofs.WrittenForms.{items_in}
use Rattle.law_formulas.specs.Formulas.{Formula, now, next, when, weak, FormulaText, at_place, of_body}
use Rattle.law_fresh_monitors.specs.Spots.{NoneTwice}
use Rattle.law_formula_texts.specs.Spelled.{body_for, claim_rule, item_with, body_with, top_with, below_with, formula_rule, places_in, places_among, places_of_top, if_found, with_formula, SpellsFormulas}
use Rattle.law_formula_texts.proofs.Counting.{times, times-append, at-most-once, none-twice}
use Rattle.law_grammar.specs.Marks.{Mark, any_number, exactly, has_mark}
use Rattle.law_grammar.proofs.Forms.{starts-wider, token-begins}
use Rattle.law_formula_grammar.specs.Grammar.{Formulas, With, bare, trees, all_formulas, body_of, listed, claim_of, forall_of, block_of, module_of, formula_below, formula_at, claim, item_rule, body_rule, item_below, body_below, top_rule, text_rule}
use Rattle.law_formula_grammar.specs.Spelling.{SpellsBy}
use Rattle.law_formula_grammar.proofs.Among.{Among, all-among, count, core, Within, token-steps, name-steps, opener-steps, names-steps, extent-steps, binder-steps, condition-steps, inner-steps, brackets-steps, type-steps, simple-steps, split-steps, using-steps, instance-steps, layer-steps, declared-steps, role-steps, formula-steps}
use Rattle.law_formula_grammar.proofs.Numbers.{IsNumberAt, numbered}

-- ---- the rules without those of items are the same

-- what holds of one holds of the other
abbrev Alike : Rules → Rules → Type 1
Alike r s = (P : Rules → Type 0) → P r → P s

core-alike : (G : Formulas) (floor : ℕ → ℕ) (n : ℕ) → Alike (core (below floor n)) (core (below_with G floor n).0)
core-alike G floor zero P p = p
core-alike G floor (suc n) P p = core-alike G floor n (λ r. P (core (g.rules floor n r))) p

-- ---- lists

each-left : {X : Type 0} (P : X → Type 0) (xs ys : List X) → AllByRecursion P (xs ++ ys) → AllByRecursion P xs
each-left P [] ys h = tt
each-left P (x ∷ xs) ys h = (h.0, each-left P xs ys h.1)

each-right : {X : Type 0} (P : X → Type 0) (xs ys : List X) → AllByRecursion P (xs ++ ys) → AllByRecursion P ys
each-right P [] ys h = h
each-right P (x ∷ xs) ys h = each-right P xs ys h.1

-- ---- where the bodies of claims are numbers

pub places-Forall : (x : Word) (over : TypeExpr) (body : Item) (at : ℕ) → places_in (item.Forall x over body at) ≡ places_in body
unfolding computing
places-Forall x over body at = refl

places-row : (k : _) (row : Row_of-Item k) → places_among row ≡ flat_map places_in (items-the_row-Item k row)
places-row k end_of-Item = refl
places-row k (more_of-Item x rest) = ap (λ l. places_in x ++ l) (places-row _ rest)

pub places-Block : (xs : List Item) → places_in (item.Block xs) ≡ flat_map places_in xs
places-Block xs = places-row (items_in (item.Block xs)).0 (items_in (item.Block xs)).1 ∙ ap (flat_map places_in) (items_hidden-the_row-Item-1 xs)

-- ---- a list of formulas that fits

-- the list has these at their offsets
abbrev pub HasAll : Formulas → Formulas → Type 0
HasAll G fs = AllByRecursion (λ entry. at_place G entry.0 ≡ Some entry.1) fs

abbrev pub offsets : Formulas → List ℕ
offsets fs = map (λ entry. entry.0) fs

abbrev first_marks : List Mark
first_marks = exactly w.word_X ∷ exactly w.word_if ∷ exactly w.word_W ∷ []

module _ (whole : Tokens) where
  -- it has nothing at a number
  abbrev NoNumbers : Formulas → Type 0
  NoNumbers G = (t : Token) → Among whole t → has_mark (any_number ∷ []) t.kind ≡ true → at_place G t.at ≡ None

  abbrev Fits : Formulas → Formulas → Type 0
  Fits G fs = HasAll G fs × NoNumbers G

  -- a token stands there that begins a formula
  abbrev IsFirst : ℕ → Type 0
  IsFirst at = (t : Token) × Among whole t × (t.at ≡ at) × (has_mark first_marks t.kind ≡ true)

  -- What is spelled of a tree with its formulas: they begin with tokens of their own, and for a list that fits, the other grammar spells the tree.
  record Shows {A : Type 0} (old : Formulas → Rule A) (places : List ℕ) (ts : Tokens) (x : A) (fs : Formulas) (rest : Tokens) : Type 0 where
    within : Within whole rest
    few : (k : ℕ) → times k (offsets fs) + count k rest ≤ count k ts
    firsts : AllByRecursion (λ entry. IsFirst entry.0) fs
    spelled : (G : Formulas) → Fits G fs → old G ts x rest
    found : (G : Formulas) → Fits G fs → flat_map (with_formula G) places ≡ offsets fs

  -- ---- several

  module _ {A : Type 0} (rule : Rule (With A)) (old : Formulas → Rule A) (places : A → List ℕ)
      (one : (ts : Tokens) (x : With A) (rest : Tokens) → rule ts x rest → Within whole ts → Shows old (places x.0) ts x.0 x.1 rest) where
    shows-many : (ts : Tokens) (xs : List (With A)) (rest : Tokens) → many rule ts xs rest → Within whole ts → Shows (λ G. many (old G)) (flat_map places (trees xs)) ts (trees xs) (all_formulas xs) rest
    shows-many ts [] rest e h = record {
      within = subst (Within whole) e h;
      few = λ k. subst (λ us. 0 + count k us ≤ count k ts) e (omega arith);
      firsts = tt;
      spelled = λ G fits. e;
      found = λ G fits. refl;
    }
    shows-many ts (x ∷ xs) rest (middle, p, q) h =
        let a = one ts x middle p h in
        let b = shows-many middle xs rest q a.within in
        record {
          within = b.within;
          few = λ k.
              let both : times k (offsets (x.1 ++ all_formulas xs)) ≡ times k (offsets x.1) + times k (offsets (all_formulas xs)) = ap (times k) (map-append (λ (entry : ℕ × Formula). entry.0) x.1 (all_formulas xs)) ∙ times-append k (offsets x.1) (offsets (all_formulas xs)) in
              let l = a.few k in
              let m = b.few k in
              omega (arith, both, l, m);
          firsts = each_append (λ (entry : ℕ × Formula). IsFirst entry.0) x.1 (all_formulas xs) a.firsts b.firsts;
          spelled = λ G fits. (middle, a.spelled G (left G fits), b.spelled G (right G fits));
          found = λ G fits.
              flat_map-append (with_formula G) (places x.0) (flat_map places (trees xs)) ∙ (ap (λ l. l ++ flat_map (with_formula G) (flat_map places (trees xs))) (a.found G (left G fits)) ∙ (ap (λ l. offsets x.1 ++ l) (b.found G (right G fits)) ∙ sym (map-append (λ (entry : ℕ × Formula). entry.0) x.1 (all_formulas xs))));
        }
      where
        left : (G : Formulas) → Fits G (x.1 ++ all_formulas xs) → Fits G x.1
        left G fits = (each-left (λ (entry : ℕ × Formula). at_place G entry.0 ≡ Some entry.1) x.1 (all_formulas xs) fits.0, fits.1)

        right : (G : Formulas) → Fits G (x.1 ++ all_formulas xs) → Fits G (all_formulas xs)
        right G fits = (each-right (λ (entry : ℕ × Formula). at_place G entry.0 ≡ Some entry.1) x.1 (all_formulas xs) fits.0, fits.1)

  -- ---- formulas

  abbrev IsLater : Formula → Type 0
  IsLater (now e) = ⊥
  IsLater f = Unit {0}

  formula-same : (G : Formulas) (floor : ℕ → ℕ) (n : ℕ) → ((ts : Tokens) (f : Formula) (rest : Tokens) → formula_below floor n ts f rest → (below_with G floor n).1 ts f rest)
      → (ts : Tokens) (f : Formula) (rest : Tokens) → formula_at floor n ts f rest → formula_rule floor n (below_with G floor n).0 (below_with G floor n).1 ts f rest
  formula-same G floor n deeper ts f rest (inl (at, m0, p0, (o, m1, p1, (h, m2, p2, more)))) = inl (at, m0, p0, (o, m1, p1, (h, m2, deeper m1 h m2 p2, more)))
  formula-same G floor n deeper ts f rest (inr (inl (at, m0, p0, (c, m1, p1, (h, m2, p2, more))))) = inr (inl (at, m0, p0, (c, m1, core-alike G floor n (λ r. r.condition m0 c m1) p1, (h, m2, deeper m1 h m2 p2, more))))
  formula-same G floor n deeper ts f rest (inr (inr (inl (at, m0, p0, (o, m1, p1, (a, m2, p2, (c, m3, p3, (b, m4, p4, more)))))))) =
      inr (inr (inl (at, m0, p0, (o, m1, p1, (a, m2, core-alike G floor n (λ r. r.expr m1 a m2) p2, (c, m3, p3, (b, m4, core-alike G floor n (λ r. r.expr m3 b m4) p4, more)))))))
  formula-same G floor n deeper ts f rest (inr (inr (inr (e, m0, p0, more)))) = inr (inr (inr (e, m0, core-alike G floor n (λ r. g.expr_rule floor n r ts e m0) p0, more)))

  below-same : (G : Formulas) (floor : ℕ → ℕ) (n : ℕ) (ts : Tokens) (f : Formula) (rest : Tokens) → formula_below floor n ts f rest → (below_with G floor n).1 ts f rest
  below-same G floor zero ts f rest h = absurd h
  below-same G floor (suc n) ts f rest h = formula-same G floor n (below-same G floor n) ts f rest h

  -- a formula that is no expression takes its first token, and leaves no more than there is behind that
  record Later (t : Token) (us rest : Tokens) : Type 0 where
    within : Within whole rest
    few : (k : ℕ) → count k rest ≤ count k us
    first : has_mark first_marks t.kind ≡ true

  later-formula : (floor : ℕ → ℕ) (n : ℕ) (t : Token) (us : Tokens) (f : Formula) (rest : Tokens) → formula_at floor n (t ∷ us) f rest → IsLater f → Within whole (t ∷ us) → Later t us rest
  later-formula floor n t us f rest (inl (at, m0, p0, (o, m1, p1, (h, m2, p2, (c, m3, p3, (eq, r)))))) later inside =
      let begun : us ≡ m0 = p0.1 in
      let a = opener-steps whole floor n open_paren m0 o m1 p1 (subst (Within whole) begun inside.1) in
      let b = formula-steps whole floor n m1 h m2 p2 a.0 in
      let d = token-steps whole close_paren m2 c m3 p3 b.0 in
      record {
        within = subst (Within whole) r d.0;
        few = λ k. let x = a.1 k in let y = b.1 k in let z = d.1 k in let s : count k m0 ≡ count k us = ap (count k) (sym begun) in let e : count k m3 ≡ count k rest = ap (count k) r in omega (arith, x, y, z, s, e);
        first = starts-wider (exactly w.word_X ∷ []) first_marks (t ∷ us) refl ((token-begins w.word_X).holds floor n (t ∷ us) at m0 p0);
      }
  later-formula floor n t us f rest (inr (inl (at, m0, (o, i0, p0, (u, i1, (lt, (e0, e1)), (e2, e3))), (c, m1, p1, (h, m2, p2, (eq, r)))))) later inside =
      let begun : us ≡ m0 = p0.1 ∙ (e1 ∙ e3) in
      let b = condition-steps whole floor n m0 c m1 p1 (subst (Within whole) begun inside.1) in
      let d = formula-steps whole floor n m1 h m2 p2 b.0 in
      record {
        within = subst (Within whole) r d.0;
        few = λ k. let y = b.1 k in let z = d.1 k in let s : count k m0 ≡ count k us = ap (count k) (sym begun) in let e : count k m2 ≡ count k rest = ap (count k) r in omega (arith, y, z, s, e);
        first = starts-wider (exactly w.word_if ∷ []) first_marks (t ∷ us) refl ((token-begins w.word_if).holds floor n (t ∷ us) o i0 p0);
      }
  later-formula floor n t us f rest (inr (inr (inl (at, m0, p0, (o, m1, p1, (a, m2, p2, (c, m3, p3, (b, m4, p4, (d, m5, p5, (eq, r)))))))))) later inside =
      let begun : us ≡ m0 = p0.1 in
      let s1 = opener-steps whole floor n open_paren m0 o m1 p1 (subst (Within whole) begun inside.1) in
      let s2 = inner-steps whole floor n m1 a m2 p2 s1.0 in
      let s3 = token-steps whole comma m2 c m3 p3 s2.0 in
      let s4 = inner-steps whole floor n m3 b m4 p4 s3.0 in
      let s5 = token-steps whole close_paren m4 d m5 p5 s4.0 in
      record {
        within = subst (Within whole) r s5.0;
        few = λ k. let x1 = s1.1 k in let x2 = s2.1 k in let x3 = s3.1 k in let x4 = s4.1 k in let x5 = s5.1 k in let s : count k m0 ≡ count k us = ap (count k) (sym begun) in let e : count k m5 ≡ count k rest = ap (count k) r in omega (arith, x1, x2, x3, x4, x5, s, e);
        first = starts-wider (exactly w.word_W ∷ []) first_marks (t ∷ us) refl ((token-begins w.word_W).holds floor n (t ∷ us) at m0 p0);
      }
  later-formula floor n t us f rest (inr (inr (inr (e, m0, p0, (eq, r))))) later inside = absurd (subst IsLater (sym eq) later)

  -- ---- claims

  -- an expression for which the list has nothing
  none-for : (G : Formulas) → NoNumbers G → (e : Expr) → ((v at : ℕ) → e ≡ expr.Number v at → IsNumberAt whole at) → of_body G e ≡ None
  none-for G free (expr.Number v at) h = let t = h v at refl in subst (λ o. at_place G o ≡ None) t.2 (free t.0 t.1 t.3)
  none-for G free e h = refl

  none-found : (G : Formulas) → NoNumbers G → (x : Word) (vars : List Word) (place : ℕ) (e : Expr) → ((v at : ℕ) → e ≡ expr.Number v at → IsNumberAt whole at) → flat_map (with_formula G) (places_in (item.Claim x vars e place)) ≡ []
  none-found G free x vars place (expr.Number v at) h = let t = h v at refl in ap (λ o. if_found at o ++ []) (subst (λ o. at_place G o ≡ None) t.2 (free t.0 t.1 t.3))
  none-found G free x vars place e h = refl

  -- the body of a claim, of a formula that stands at a token
  record Body (x : Word) (vars : List Word) (place : ℕ) (t : Token) (us : Tokens) (f : Formula) (rest : Tokens) : Type 0 where
    within : Within whole rest
    few : (k : ℕ) → times k (offsets (listed f t.at)) + count k rest ≤ count k (t ∷ us)
    firsts : AllByRecursion (λ entry. IsFirst entry.0) (listed f t.at)
    body : (G : Formulas) → Fits G (listed f t.at) → body_for G f t.at rest (body_of f t.at) rest
    found : (G : Formulas) → Fits G (listed f t.at) → flat_map (with_formula G) (places_in (item.Claim x vars (body_of f t.at) place)) ≡ offsets (listed f t.at)

  one-more : (k : ℕ) (t : Token) (us rest : Tokens) → count k rest ≤ count k us → times k (t.at ∷ []) + count k rest ≤ count k (t ∷ us)
  one-more k t us rest l = by_test (nat_eq k t.at)
    where
      by_test : (b : Bool) → cond b (suc 0) 0 + count k rest ≤ cond b (suc (count k us)) (count k us)
      by_test true = omega (arith, l)
      by_test false = omega (arith, l)

  module _ (floor : ℕ → ℕ) (n : ℕ) where
    -- the formula is an expression
    shows-now : (x : Word) (vars : List Word) (place : ℕ) (t : Token) (us : Tokens) (e : Expr) (rest : Tokens) → formula_at floor n (t ∷ us) (now e) rest → Within whole (t ∷ us) → Body x vars place t us (now e) rest
    shows-now x vars place t us e rest p inside =
        let s = formula-steps whole floor (suc n) (t ∷ us) (now e) rest p inside in
        record {
          within = s.0;
          few = λ k. let l = s.1 k in omega (arith, l);
          firsts = tt;
          body = λ G fits. (none-for G fits.1 e (numbers p), (refl, refl));
          found = λ G fits. none-found G fits.1 x vars place e (numbers p);
        }
      where
        numbers : formula_at floor n (t ∷ us) (now e) rest → (v at : ℕ) → e ≡ expr.Number v at → IsNumberAt whole at
        numbers (inl (at, m0, p0, (o, m1, p1, (h, m2, p2, (c, m3, p3, (eq, r)))))) v at' q = absurd cc
        numbers (inr (inl (at, m0, p0, (c, m1, p1, (h, m2, p2, (eq, r)))))) v at' q = absurd cc
        numbers (inr (inr (inl (at, m0, p0, (o, m1, p1, (a, m2, p2, (c, m3, p3, (b, m4, p4, (d, m5, p5, (eq, r)))))))))) v at' q = absurd cc
        numbers (inr (inr (inr (d, m0, p0, (eq, r))))) v at q =
            let same : d ≡ e = expr_same d e eq in
            numbered whole floor n (t ∷ us) v at m0 (subst (λ z. g.expr_rule floor n (below floor n) (t ∷ us) z m0) (same ∙ q) p0) inside
          where
            expr_in : Formula → Expr → Expr
            expr_in (now z) y = z
            expr_in f y = y

            expr_same : (d e : Expr) → now d ≡ now e → d ≡ e
            expr_same d e h = ap (λ f. expr_in f e) h

    -- it is not
    shows-later : (x : Word) (vars : List Word) (place : ℕ) (t : Token) (us : Tokens) (f : Formula) (rest : Tokens) → listed f t.at ≡ (t.at, f) ∷ [] → body_of f t.at ≡ expr.Number 1 t.at
        → ((G : Formulas) → at_place G t.at ≡ Some f → body_for G f t.at rest (expr.Number 1 t.at) rest) → Later t us rest → Within whole (t ∷ us) → Body x vars place t us f rest
    shows-later x vars place t us f rest own body made l inside = record {
      within = l.within;
      few = λ k. subst (λ fs. times k (offsets fs) + count k rest ≤ count k (t ∷ us)) (sym own) (one-more k t us rest (l.few k));
      firsts = subst (AllByRecursion (λ (entry : ℕ × Formula). IsFirst entry.0)) (sym own) ((t, inside.0, refl, l.first), tt);
      body = λ G fits. subst (λ b. body_for G f t.at rest b rest) (sym body) (made G (own-found G fits));
      found = λ G fits.
          subst (λ b. flat_map (with_formula G) (places_in (item.Claim x vars b place)) ≡ offsets (listed f t.at)) (sym body)
          (subst (λ fs. flat_map (with_formula G) (places_in (item.Claim x vars (expr.Number 1 t.at) place)) ≡ offsets fs) (sym own) (ap (λ o. if_found t.at o ++ []) (own-found G fits)));
    }
      where
        own-found : (G : Formulas) → Fits G (listed f t.at) → at_place G t.at ≡ Some f
        own-found G fits = (subst (HasAll G) own fits.0).0

    shows-body : (x : Word) (vars : List Word) (place : ℕ) (t : Token) (us : Tokens) (f : Formula) (rest : Tokens) → formula_at floor n (t ∷ us) f rest → Within whole (t ∷ us) → Body x vars place t us f rest
    shows-body x vars place t us (now e) rest p inside = shows-now x vars place t us e rest p inside
    shows-body x vars place t us (next at f) rest p inside = shows-later x vars place t us (next at f) rest refl refl (λ G h. (h, (refl, refl))) (later-formula floor n t us (next at f) rest p tt inside) inside
    shows-body x vars place t us (when c f) rest p inside = shows-later x vars place t us (when c f) rest refl refl (λ G h. (h, (refl, refl))) (later-formula floor n t us (when c f) rest p tt inside) inside
    shows-body x vars place t us (weak a b) rest p inside = shows-later x vars place t us (weak a b) rest refl refl (λ G h. (h, (refl, refl))) (later-formula floor n t us (weak a b) rest p tt inside) inside

    abbrev old_claim : Formulas → Rule Item
    old_claim G = claim_rule floor n (below_with G floor n).0 (below_with G floor n).1 G

    abbrev ShowsItem : (Formulas → Rule Item) → Tokens → With Item → Tokens → Type 0
    ShowsItem old ts x rest = Shows old (places_in x.0) ts x.0 x.1 rest

    moved : (old : Formulas → Rule Item) (ts : Tokens) (x y : With Item) (us rest : Tokens) → x ≡ y → us ≡ rest → ShowsItem old ts x us → ShowsItem old ts y rest
    moved old ts x y us rest e r h = subst (λ z. ShowsItem old ts z rest) e (subst (λ z. ShowsItem old ts x z) r h)

    shows-claim : (ts : Tokens) (y : With Item) (rest : Tokens) → claim floor n ts y rest → Within whole ts → ShowsItem old_claim ts y rest
    shows-claim ts y rest (x, m0, p0, (vars, m1, p1, (c, m2, p2, (a, m3, p3, (q, m4, p4, (f, m5, p5, (e, m6, p6, (eq, r)))))))) inside =
        moved old_claim ts (claim_of x vars f) y m6 rest eq r (by_tokens m4 refl p5 s4.0)
      where
        s0 : Within whole m0 × ((k : ℕ) → count k m0 ≤ count k ts)
        s0 = name-steps whole ts x m0 p0 inside

        s1 : Within whole m1 × ((k : ℕ) → count k m1 ≤ count k m0)
        s1 = brackets-steps whole floor n m0 vars m1 p1 s0.0

        s2 : Within whole m2 × ((k : ℕ) → count k m2 ≤ count k m1)
        s2 = token-steps whole colon m1 c m2 p2 s1.0

        s3 : Within whole m3 × ((k : ℕ) → count k m3 ≤ count k m2)
        s3 = token-steps whole w.word_assert m2 a m3 p3 s2.0

        s4 : Within whole m4 × ((k : ℕ) → count k m4 ≤ count k m3)
        s4 = token-steps whole w.word_G m3 q m4 p4 s3.0

        by_tokens : (us : Tokens) → us ≡ m4 → placed (formula_at floor n) us f m5 → Within whole us → ShowsItem old_claim ts (claim_of x vars f) m6
        by_tokens [] same p w = absurd p
        by_tokens (t ∷ us) same (p, at) w =
            subst (λ k. ShowsItem old_claim ts (claim_of x vars (f.0, k)) m6) (sym at) (with_body (shows-body x vars x.at t us f.0 m5 p w))
          where
            with_body : Body x vars x.at t us f.0 m5 → ShowsItem old_claim ts (claim_of x vars (f.0, t.at)) m6
            with_body b =
                let s6 = token-steps whole semicolon m5 e m6 p6 b.within in
                record {
                  within = s6.0;
                  few = λ k.
                      let x0 = s0.1 k in let x1 = s1.1 k in let x2 = s2.1 k in let x3 = s3.1 k in let x4 = s4.1 k in let x5 = b.few k in let x6 = s6.1 k in
                      let z : count k (t ∷ us) ≡ count k m4 = ap (count k) same in
                      omega (arith, x0, x1, x2, x3, x4, x5, x6, z);
                  firsts = b.firsts;
                  spelled = λ G fits. (
                    x,
                    m0,
                    p0,
                    (
                      vars,
                      m1,
                      core-alike G floor n (λ r. many (g.in_brackets floor n r) m0 vars m1) p1,
                      (
                        c,
                        m2,
                        p2,
                        (
                          a,
                          m3,
                          p3,
                          (
                            q,
                            m4,
                            p4,
                            (
                              (f.0, t.at),
                              m5,
                              subst (λ us. placed (formula_rule floor n (below_with G floor n).0 (below_with G floor n).1) us (f.0, t.at) m5) same (formula-same G floor n (below-same G floor n) (t ∷ us) f.0 m5 p, refl),
                              (body_of f.0 t.at, m5, b.body G fits, (e, m6, p6, (refl, refl))),
                            ),
                          ),
                        ),
                      ),
                    ),
                  );
                  found = b.found;
                }

    -- ---- items

    abbrev old_item : Formulas → Rule Item
    old_item G = item_with floor n (below_with G floor n).0 (below_with G floor n).1 G

    abbrev old_body : Formulas → Rule Item
    old_body G = body_with floor n (below_with G floor n).0 (below_with G floor n).1 G

    -- what has no claim
    shows-bare : (old : Formulas → Rule Item) (ts : Tokens) (x : Item) (rest : Tokens) → places_in x ≡ [] → Within whole rest × ((k : ℕ) → count k rest ≤ count k ts) → ((G : Formulas) → old G ts x rest) → ShowsItem old ts (bare x) rest
    shows-bare old ts x rest none s made = record {
      within = s.0;
      few = λ k. let l = s.1 k in omega (arith, l);
      firsts = tt;
      spelled = λ G fits. made G;
      found = λ G fits. ap (flat_map (with_formula G)) none;
    }

    abbrev Inner : Type 0
    Inner = (ts : Tokens) (x : With Item) (rest : Tokens) → item_below floor n ts x rest → Within whole ts → ShowsItem (λ G. (below_with G floor n).0.item) ts x rest

    shows-item : Inner → (ts : Tokens) (y : With Item) (rest : Tokens) → item_rule floor n (item_below floor n) ts y rest → Within whole ts → ShowsItem old_item ts y rest
    shows-item inner ts y rest (inl (at, m0, p0, (b, m1, p1, (body, m2, p2, (eq, r))))) inside =
        let s0 = opener-steps whole floor n w.word_forall ts at m0 p0 inside in
        let s1 = binder-steps whole floor n m0 b m1 p1 s0.0 in
        let s = inner m1 body m2 p2 s1.0 in
        moved old_item ts (forall_of b at body) y m2 rest eq r record {
          within = s.within;
          few = λ k. let x0 = s0.1 k in let x1 = s1.1 k in let x2 = s.few k in omega (arith, x0, x1, x2);
          firsts = s.firsts;
          spelled = λ G fits. inl (at, m0, p0, (b, m1, core-alike G floor n (λ z. z.binder m0 b m1) p1, (body.0, m2, s.spelled G fits, (refl, refl))));
          found = λ G fits. ap (flat_map (with_formula G)) (places-Forall b.0 b.1 body.0 at) ∙ s.found G fits;
        }
    shows-item inner ts y rest (inr (inl (at, m0, p0, (xs, m1, p1, (c, m2, p2, (eq, r)))))) inside =
        let s0 = opener-steps whole floor n open_brace ts at m0 p0 inside in
        let s = shows-many (item_below floor n) (λ G. (below_with G floor n).0.item) places_in inner m0 xs m1 p1 s0.0 in
        let s2 = token-steps whole close_brace m1 c m2 p2 s.within in
        moved old_item ts (block_of xs) y m2 rest eq r record {
          within = s2.0;
          few = λ k. let x0 = s0.1 k in let x1 = s.few k in let x2 = s2.1 k in omega (arith, x0, x1, x2);
          firsts = s.firsts;
          spelled = λ G fits. inr (inl (at, m0, p0, (trees xs, m1, s.spelled G fits, (c, m2, p2, (refl, refl)))));
          found = λ G fits. ap (flat_map (with_formula G)) (places-Block (trees xs)) ∙ s.found G fits;
        }
    shows-item inner ts y rest (inr (inr (inl p))) inside =
        let s = shows-claim ts y rest p inside in
        record { within = s.within; few = s.few; firsts = s.firsts; spelled = λ G fits. inr (inr (inl (s.spelled G fits))); found = s.found }
    shows-item inner ts y rest (inr (inr (inr (inl (x, last, h, (same, end)))))) inside = moved old_item ts (bare x) y last rest same end (by_parts x last h)
      where
        by_parts : (x : Item) (last : Tokens) → g.split floor n (below floor n) ts x last → ShowsItem old_item ts (bare x) last
        by_parts x last (at, m0, p0, (name, m1, p1, (xs, m2, p2, (c, m3, p3, (s, m4, p4, (d, m5, p5, (ps, m6, p6, (e, m7, p7, (eq, r))))))))) =
            let h : g.split floor n (below floor n) ts x last = (at, m0, p0, (name, m1, p1, (xs, m2, p2, (c, m3, p3, (s, m4, p4, (d, m5, p5, (ps, m6, p6, (e, m7, p7, (eq, r))))))))) in
            shows-bare old_item ts x last (subst (λ z. places_in z ≡ []) eq refl) (split-steps whole floor n ts x last h inside) (λ G. inr (inr (inr (inl (core-alike G floor n (λ z. g.split floor n z ts x last) h)))))
    shows-item inner ts y rest (inr (inr (inr (inr (inl (x, last, h, (same, end))))))) inside = moved old_item ts (bare x) y last rest same end (by_parts x last h)
      where
        by_parts : (x : Item) (last : Tokens) → g.using floor n (below floor n) ts x last → ShowsItem old_item ts (bare x) last
        by_parts x last (at, m0, p0, (us, m1, p1, (c, m2, p2, (rs, m3, p3, (e, m4, p4, (eq, r)))))) =
            let h : g.using floor n (below floor n) ts x last = (at, m0, p0, (us, m1, p1, (c, m2, p2, (rs, m3, p3, (e, m4, p4, (eq, r)))))) in
            shows-bare old_item ts x last (subst (λ z. places_in z ≡ []) eq refl) (using-steps whole floor n ts x last h inside) (λ G. inr (inr (inr (inr (inl (core-alike G floor n (λ z. g.using floor n z ts x last) h))))))
    shows-item inner ts y rest (inr (inr (inr (inr (inr (act, last, h, (same, end))))))) inside =
        moved old_item ts (bare (item.Act act)) y last rest same end
        (shows-bare old_item ts (item.Act act) last refl (simple-steps whole floor n ts act last h inside) (λ G. inr (inr (inr (inr (inr (act, last, core-alike G floor n (λ z. g.simple floor n z ts act last) h, (refl, refl))))))))

    -- ---- bodies

    shows-body-rule : Inner → (ts : Tokens) (y : With Item) (rest : Tokens) → body_rule floor n (item_below floor n) ts y rest → Within whole ts → ShowsItem old_body ts y rest
    shows-body-rule inner ts y rest (inl (x, last, h, (same, end))) inside = moved old_body ts (bare x) y last rest same end (by_parts x last h)
      where
        by_parts : (x : Item) (last : Tokens) → g.declaration floor n (below floor n) ts x last → ShowsItem old_body ts (bare x) last
        by_parts x last (inl (how, m0, p0, (xs, m1, p1, (c, m2, p2, (of, m3, p3, (s, m4, p4, (eq, r))))))) =
            let s0 = role-steps whole ts how m0 p0 inside in
            let h : g.declared floor n (below floor n) how.0 (λ names. how.1) m0 x last = (xs, m1, p1, (c, m2, p2, (of, m3, p3, (s, m4, p4, (eq, r))))) in
            let s1 = declared-steps whole floor n how.0 (λ names. how.1) m0 x last h s0.0 in
            shows-bare old_body ts x last (subst (λ z. places_in z ≡ []) eq refl) (s1.0, λ k. let l = s0.1 k in let m = s1.1 k in omega (arith, l, m))
            (λ G. inl (inl (how, m0, p0, core-alike G floor n (λ z. g.declared floor n z how.0 (λ names. how.1) m0 x last) h)))
        by_parts x last (inr (xs, m1, p1, (c, m2, p2, (of, m3, p3, (s, m4, p4, (eq, r)))))) =
            let h : g.declared floor n (below floor n) role.Plain g.place_of ts x last = (xs, m1, p1, (c, m2, p2, (of, m3, p3, (s, m4, p4, (eq, r))))) in
            shows-bare old_body ts x last (subst (λ z. places_in z ≡ []) eq refl) (declared-steps whole floor n role.Plain g.place_of ts x last h inside)
            (λ G. inl (inr (core-alike G floor n (λ z. g.declared floor n z role.Plain g.place_of ts x last) h)))
    shows-body-rule inner ts y rest (inr (inl (x, last, h, (same, end)))) inside = moved old_body ts (bare x) y last rest same end (by_parts x last h)
      where
        by_parts : (x : Item) (last : Tokens) → g.instance floor n (below floor n) ts x last → ShowsItem old_body ts (bare x) last
        by_parts x last (xs, m0, p0, (c, m1, p1, (name, m2, p2, (o, m3, p3, (es, m4, p4, (d, m5, p5, (s, m6, p6, (eq, r)))))))) =
            let h : g.instance floor n (below floor n) ts x last = (xs, m0, p0, (c, m1, p1, (name, m2, p2, (o, m3, p3, (es, m4, p4, (d, m5, p5, (s, m6, p6, (eq, r)))))))) in
            shows-bare old_body ts x last (subst (λ z. places_in z ≡ []) eq refl) (instance-steps whole floor n ts x last h inside) (λ G. inr (inl (core-alike G floor n (λ z. g.instance floor n z ts x last) h)))
    shows-body-rule inner ts y rest (inr (inr (inl (x, last, h, (same, end))))) inside = moved old_body ts (bare x) y last rest same end (by_parts x last h)
      where
        by_parts : (x : Item) (last : Tokens) → g.layer floor n (below floor n) ts x last → ShowsItem old_body ts (bare x) last
        by_parts x last (at, m0, p0, (name, m1, p1, (c, m2, p2, (o, m3, p3, (xs, m4, p4, (d, m5, p5, (eq, r))))))) =
            let h : g.layer floor n (below floor n) ts x last = (at, m0, p0, (name, m1, p1, (c, m2, p2, (o, m3, p3, (xs, m4, p4, (d, m5, p5, (eq, r))))))) in
            shows-bare old_body ts x last (subst (λ z. places_in z ≡ []) eq refl) (layer-steps whole floor n ts x last h inside) (λ G. inr (inr (inl (core-alike G floor n (λ z. g.layer floor n z ts x last) h))))
    shows-body-rule inner ts y rest (inr (inr (inr p))) inside =
        let s = shows-item inner ts y rest p inside in
        record { within = s.within; few = s.few; firsts = s.firsts; spelled = λ G fits. inr (inr (inr (s.spelled G fits))); found = s.found }

  items-shown : (floor : ℕ → ℕ) (n : ℕ) → Inner floor n
  items-shown floor zero ts x rest p inside = absurd p
  items-shown floor (suc n) ts x rest p inside = shows-item floor n (items-shown floor n) ts x rest p inside

  bodies-shown : (floor : ℕ → ℕ) (n : ℕ) (ts : Tokens) (x : With Item) (rest : Tokens) → body_below floor n ts x rest → Within whole ts → Shows (λ G. (below_with G floor n).0.body) (places_in x.0) ts x.0 x.1 rest
  bodies-shown floor zero ts x rest p inside = absurd p
  bodies-shown floor (suc n) ts x rest p inside = shows-body-rule floor n (items-shown floor n) ts x rest p inside

  -- ---- the text

  module _ (floor : ℕ → ℕ) (n : ℕ) where
    abbrev old_top : Formulas → Rule Top
    old_top G = top_with floor n (below_with G floor n).0 (below_with G floor n).1 G

    abbrev ShowsTop : Tokens → With Top → Tokens → Type 0
    ShowsTop ts x rest = Shows old_top (places_of_top x.0) ts x.0 x.1 rest

    moved-top : (ts : Tokens) (x y : With Top) (us rest : Tokens) → x ≡ y → us ≡ rest → ShowsTop ts x us → ShowsTop ts y rest
    moved-top ts x y us rest e r h = subst (λ z. ShowsTop ts z rest) e (subst (λ z. ShowsTop ts x z) r h)

    bare-top : (ts : Tokens) (x : Top) (rest : Tokens) → places_of_top x ≡ [] → Within whole rest × ((k : ℕ) → count k rest ≤ count k ts) → ((G : Formulas) → old_top G ts x rest) → ShowsTop ts (bare x) rest
    bare-top ts x rest none s made = record {
      within = s.0;
      few = λ k. let l = s.1 k in omega (arith, l);
      firsts = tt;
      spelled = λ G fits. made G;
      found = λ G fits. ap (flat_map (with_formula G)) none;
    }

    -- one after another
    both-steps : (ts middle rest : Tokens) → Within whole middle × ((k : ℕ) → count k middle ≤ count k ts) → Within whole rest × ((k : ℕ) → count k rest ≤ count k middle) → Within whole rest × ((k : ℕ) → count k rest ≤ count k ts)
    both-steps ts middle rest a b = (b.0, λ k. let l = a.1 k in let m = b.1 k in omega (arith, l, m))

    shows-top : (ts : Tokens) (y : With Top) (rest : Tokens) → top_rule floor n ts y rest → Within whole ts → ShowsTop ts y rest
    shows-top ts y rest (inl (s, m0, p0, (x, m1, p1, (o, m2, p2, (e, m3, p3, (eq, r)))))) inside =
        let s0 = token-steps whole w.word_scalarset ts s m0 p0 inside in
        let s1 = name-steps whole m0 x m1 p1 s0.0 in
        let s2 = extent-steps whole m1 o m2 p2 s1.0 in
        let s3 = token-steps whole semicolon m2 e m3 p3 s2.0 in
        moved-top ts (bare (top.SetType x false o.0 o.1)) y m3 rest eq r
        (bare-top ts (top.SetType x false o.0 o.1) m3 refl (both-steps ts m2 m3 (both-steps ts m1 m2 (both-steps ts m0 m1 s0 s1) s2) s3) (λ G. inl (s, m0, p0, (x, m1, p1, (o, m2, p2, (e, m3, p3, (refl, refl)))))))
    shows-top ts y rest (inr (inl (s, m0, p0, (x, m1, p1, (o, m2, p2, (e, m3, p3, (eq, r))))))) inside =
        let s0 = token-steps whole w.word_ordset ts s m0 p0 inside in
        let s1 = name-steps whole m0 x m1 p1 s0.0 in
        let s2 = token-steps whole w.word_undefined m1 o m2 p2 s1.0 in
        let s3 = token-steps whole semicolon m2 e m3 p3 s2.0 in
        moved-top ts (bare (top.SetType x true None o)) y m3 rest eq r
        (bare-top ts (top.SetType x true None o) m3 refl (both-steps ts m2 m3 (both-steps ts m1 m2 (both-steps ts m0 m1 s0 s1) s2) s3) (λ G. inr (inl (s, m0, p0, (x, m1, p1, (o, m2, p2, (e, m3, p3, (refl, refl))))))))
    shows-top ts y rest (inr (inr (inl (at, m0, p0, (x, m1, p1, (of, m2, p2, (e, m3, p3, (eq, r)))))))) inside =
        let s0 = token-steps whole w.word_typedef ts at m0 p0 inside in
        let s1 = name-steps whole m0 x m1 p1 s0.0 in
        let s2 = type-steps whole floor n m1 of m2 p2 s1.0 in
        let s3 = token-steps whole semicolon m2 e m3 p3 s2.0 in
        moved-top ts (bare (top.Alias x of at)) y m3 rest eq r
        (bare-top ts (top.Alias x of at) m3 refl (both-steps ts m2 m3 (both-steps ts m1 m2 (both-steps ts m0 m1 s0 s1) s2) s3)
        (λ G. inr (inr (inl (at, m0, p0, (x, m1, p1, (of, m2, core-alike G floor n (λ z. g.type_rule floor n z m1 of m2) p2, (e, m3, p3, (refl, refl)))))))))
    shows-top ts y rest (inr (inr (inr (at, m0, p0, (x, m1, p1, (o, m2, p2, (formals, m3, p3, (c, m4, p4, (b, m5, p5, (items, m6, p6, (e, m7, p7, (eq, r)))))))))))) inside =
        let s0 = token-steps whole w.word_module ts at m0 p0 inside in
        let s1 = name-steps whole m0 x m1 p1 s0.0 in
        let s2 = opener-steps whole floor n open_paren m1 o m2 p2 s1.0 in
        let s3 = names-steps whole m2 formals m3 p3 s2.0 in
        let s4 = token-steps whole close_paren m3 c m4 p4 s3.0 in
        let s5 = opener-steps whole floor n open_brace m4 b m5 p5 s4.0 in
        let s = shows-many (body_below floor n) (λ G. (below_with G floor n).0.body) places_in (bodies-shown floor n) m5 items m6 p6 s5.0 in
        let s7 = token-steps whole close_brace m6 e m7 p7 s.within in
        moved-top ts (module_of at x formals items) y m7 rest eq r record {
          within = s7.0;
          few = λ k.
              let x0 = s0.1 k in let x1 = s1.1 k in let x2 = s2.1 k in let x3 = s3.1 k in let x4 = s4.1 k in let x5 = s5.1 k in let x6 = s.few k in let x7 = s7.1 k in
              omega (arith, x0, x1, x2, x3, x4, x5, x6, x7);
          firsts = s.firsts;
          spelled = λ G fits. inr (inr (inr (at, m0, p0, (x, m1, p1, (o, m2, p2, (formals, m3, p3, (c, m4, p4, (b, m5, p5, (trees items, m6, s.spelled G fits, (e, m7, p7, (refl, refl)))))))))));
          found = s.found;
        }

-- ---- the list of a whole text fits

-- one token stands at an offset
one-there : (ts : Tokens) → NoneTwice (map (λ (t : Token). t.at) ts) → (s t : Token) → Among ts s → Among ts t → s.at ≡ t.at → s ≡ t
one-there [] once s t c d e = absurd c
one-there (u ∷ ts) once s t c d e = by_cases c d (λ p q. one-there ts once.1 s t p q e)
  where
    there : (v : Token) → Among ts v → v.at ≡ u.at → list_any (nat_eq u.at) (map (λ (t : Token). t.at) ts) ≡ true
    there v h q = listed_there ts h
      where
        listed_there : (us : Tokens) → Among us v → list_any (nat_eq u.at) (map (λ (t : Token). t.at) us) ≡ true
        listed_there [] h = absurd h
        listed_there (x ∷ us) (inl same) = or_left (nat_eq u.at x.at) (list_any (nat_eq u.at) (map (λ (t : Token). t.at) us)) (nat_eq-same u.at x.at (ap (λ (y : Token). y.at) same ∙ q))
        listed_there (x ∷ us) (inr h) = or_right (nat_eq u.at x.at) (list_any (nat_eq u.at) (map (λ (t : Token). t.at) us)) (listed_there us h)

    by_cases : (u ≡ s) ⊎ Among ts s → (u ≡ t) ⊎ Among ts t → (Among ts s → Among ts t → s ≡ t) → s ≡ t
    by_cases (inl p) (inl q) again = sym p ∙ q
    by_cases (inl p) (inr q) again = impossible (list_any (nat_eq u.at) (map (λ (t : Token). t.at) ts)) (there t q (sym e ∙ sym (ap (λ (y : Token). y.at) p))) once.0
    by_cases (inr p) (inl q) again = impossible (list_any (nat_eq u.at) (map (λ (t : Token). t.at) ts)) (there s p (e ∙ sym (ap (λ (y : Token). y.at) q))) once.0
    by_cases (inr p) (inr q) again = again p q

-- the list has each at its own offset
pub has-all : (fs : Formulas) → NoneTwice (offsets fs) → HasAll fs fs
has-all [] once = tt
has-all ((at, f) ∷ fs) once = (ap (λ b. cond b (Some f) (at_place fs at)) (nat_eq-same at at refl), behind fs once.0 (has-all fs once.1))
  where
    behind : (gs : Formulas) → list_any (nat_eq at) (offsets gs) ≡ false → HasAll fs gs → HasAll ((at, f) ∷ fs) gs
    behind [] h k = tt
    behind (entry ∷ gs) h k =
        let parts = or_parts (nat_eq at entry.0) (list_any (nat_eq at) (offsets gs)) h in
        (ap (λ b. cond b (Some f) (at_place fs entry.0)) parts.0 ∙ k.0, behind gs parts.1 k.1)

-- no token begins a formula and is a number
not-both : (kind : TokenKind) → has_mark first_marks kind ≡ true → has_mark (any_number ∷ []) kind ≡ true → ⊥
not-both (Ident bytes) h k = absurd cc
not-both (Number value) h k = absurd cc
not-both (Sign i) h k = absurd cc
not-both (Reserved i) h k = absurd cc

no-numbers : (whole : Tokens) → NoneTwice (map (λ (t : Token). t.at) whole) → (fs : Formulas) → AllByRecursion (λ entry. IsFirst whole entry.0) fs → NoNumbers whole fs
no-numbers whole once [] h t c k = refl
no-numbers whole once ((at, f) ∷ fs) h t c k = by_test (nat_eq at t.at) refl (no-numbers whole once fs h.1 t c k)
  where
    by_test : (b : Bool) → nat_eq at t.at ≡ b → at_place fs t.at ≡ None → cond b (Some f) (at_place fs t.at) ≡ None
    by_test false e rest = rest
    by_test true e rest =
        let first = h.0 in
        let same : first.0 ≡ t = one-there whole once first.0 t first.1 c (first.2 ∙ nat_eq-is at t.at e) in
        absurd (not-both t.kind (subst (λ (u : Token). has_mark first_marks u.kind ≡ true) same first.3) k)

-- the tops show their formulas
tops-shown : (n : ℕ) (ts : Tokens) (xs : List (With Top)) (last : Tokens) → many (top_rule (λ at. 0) n) ts xs last → Shows ts (λ G. many (old_top ts (λ at. 0) n G)) (flat_map places_of_top (trees xs)) ts (trees xs) (all_formulas xs) last
tops-shown n ts xs last h = shows-many ts (top_rule (λ at. 0) n) (old_top ts (λ at. 0) n) places_of_top (shows-top ts (λ at. 0) n) ts xs last h (all-among ts)

-- no two of their formulas stand at one offset
pub offsets-once : (n : ℕ) (ts : Tokens) (xs : List (With Top)) (last : Tokens) → NoneTwice (map (λ (t : Token). t.at) ts) → many (top_rule (λ at. 0) n) ts xs last → NoneTwice (offsets (all_formulas xs))
offsets-once n ts xs last once h = none-twice (offsets (all_formulas xs)) few
  where
    few : (k : ℕ) → times k (offsets (all_formulas xs)) ≤ 1
    few k = let s = tops-shown n ts xs last h in let l = s.few k in let m = at-most-once k (map (λ (t : Token). t.at) ts) once in omega (arith, l, m)

pub same-text : (n : ℕ) (ts : Tokens) (ft : FormulaText) → NoneTwice (map (λ (t : Token). t.at) ts) → SpellsBy text_rule n ts ft → SpellsFormulas n ts ft
same-text n ts ft once (xs, last, h, (eq, r)) =
    let s = tops-shown n ts xs last h in
    let fits : Fits ts (all_formulas xs) (all_formulas xs) = (has-all (all_formulas xs) (offsets-once n ts xs last once h), no-numbers ts once (all_formulas xs) s.firsts) in
    subst (SpellsFormulas n ts) eq (record { text = subst (λ us. many (old_top ts (λ at. 0) n (all_formulas xs)) ts (trees xs) us) r (s.spelled (all_formulas xs) fits); formulas = sym (s.found (all_formulas xs) fits) })
