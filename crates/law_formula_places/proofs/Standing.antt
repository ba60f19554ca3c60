-- What the grammar of texts with formulas reads of tokens at places of at most a number: so stand the names of its claims, and each X of its formulas.
use Rattle.std.proofs.Common.{◌≡◌, ◌≤◌, ℕ, zero, suc, List, [], ◌∷◌, Some, None, Bool, true, false, if◌then◌else◌, inl, inr, ap, subst}
use Rattle.std.specs.List.{AllByRecursion}
use Rattle.law_lists.proofs.Each.{each_append}
use Rattle.law_lists.proofs.Options.{some_is}
use Rattle.smv_core.specs.declared.token.Token.{Token}
use Rattle.smv_core.specs.declared.token.TokenKind.{TokenKind}
use Rattle.smv_core.specs.declared.token.TokenKind.TheVariants.{Ident, Number, Sign, Reserved}
use Rattle.smv_core.specs.declared.tree.Word.{Word}
use Rattle.smv_core.specs.declared.tree.Role.TheVariants as role
use Rattle.smv_core.specs.declared.tree.Item.{Item}
use Rattle.smv_core.specs.declared.tree.Item.TheVariants as item
use Rattle.smv_core.specs.declared.tree.Top.TheVariants as top
use Rattle.smv_core.specs.Signs.{open_paren, close_paren, open_brace, close_brace, colon, semicolon}
use Rattle.smv_core.specs.Signs as w
use Rattle.smv_core.specs.Notation.{Tokens, Rule, many, placed, token, name, name_of, same_kind}
use Rattle.smv_core.specs.Grammar as g
use Rattle.smv_core.specs.Grammar.{below}
use Rattle.law_formulas.specs.Formulas.{Formula, now, next, when, weak, FormulaText}
use Rattle.law_formulas.specs.Ninths.{nexts}
use Rattle.law_formula_grammar.specs.Grammar.{Formulas, With, bare, trees, all_formulas, body_of, listed, claim_of, forall_of, block_of, module_of, formula_below, formula_at, without, claim, item_rule, body_rule, item_below, body_below, top_rule, text_rule}
use Rattle.law_formula_grammar.specs.Spelling.{SpellsBy}
use Rattle.law_formula_grammar.proofs.Among.{Among, all-among, Within, token-steps, name-steps, opener-steps, names-steps, extent-steps, binder-steps, condition-steps, brackets-steps, type-steps, simple-steps, split-steps, using-steps, instance-steps, layer-steps, declared-steps, role-steps, formula-steps}
use Rattle.law_formula_places.proofs.Claims.{ClaimsStand, TopStands, claim-stands, forall-stands, block-stands}

-- ---- what stands at most at a number

abbrev pub Stands : ℕ → Tokens → Type 0
Stands n ts = AllByRecursion (λ (t : Token). t.at ≤ n) ts

-- each X of a formula
abbrev pub NextsStand : ℕ → Formula → Type 0
NextsStand n f = AllByRecursion (λ (at : ℕ). at ≤ n) (nexts f)

abbrev pub FormulasStand : ℕ → Formulas → Type 0
FormulasStand n fs = AllByRecursion (λ (entry : ℕ × Formula). NextsStand n entry.1) fs

listed-stands : (n : ℕ) (f : Formula) (at : ℕ) → NextsStand n f → FormulasStand n (listed f at)
listed-stands n (now e) at h = tt
listed-stands n (next x f) at h = (h, tt)
listed-stands n (when c f) at h = (h, tt)
listed-stands n (weak p q) at h = (h, tt)

among-stands : (n : ℕ) (ts : Tokens) → Stands n ts → (t : Token) → Among ts t → t.at ≤ n
among-stands n [] h t c = absurd c
among-stands n (u ∷ us) h t (inl e) = subst (λ (v : Token). v.at ≤ n) e h.0
among-stands n (u ∷ us) h t (inr c) = among-stands n us h.1 t c

module _ (n : ℕ) (whole : Tokens) (stands : Stands n whole) where
  token-stands : (kind : TokenKind) (ts : Tokens) (at : ℕ) (rest : Tokens) → token kind ts at rest → Within whole ts → at ≤ n
  token-stands kind [] at rest p inside = absurd p
  token-stands kind (t ∷ ts) at rest p inside = subst (λ k. k ≤ n) (by_test (same_kind t.kind kind) p.0) (among-stands n whole stands t inside.0)
    where
      by_test : (b : Bool) → (if b then Some t.at else None) ≡ Some at → t.at ≡ at
      by_test true e = some_is e
      by_test false e = absurd (cc (e))

  word-stands : (ts : Tokens) (x : Word) (rest : Tokens) → name ts x rest → Within whole ts → x.at ≤ n
  word-stands [] x rest p inside = absurd p
  word-stands (t ∷ ts) x rest p inside = subst (λ k. k ≤ n) (by_kind t.kind p.0) (among-stands n whole stands t inside.0)
    where
      by_kind : (kind : TokenKind) → name_of t.at kind ≡ Some x → t.at ≡ x.at
      by_kind (Ident bytes) e = ap (λ (y : Word). y.at) (some_is e)
      by_kind (Number value) e = absurd (cc (e))
      by_kind (Sign i) e = absurd (cc (e))
      by_kind (Reserved i) e = absurd (cc (e))

  -- ---- rules

  -- what is left stands among the tokens
  abbrev Leaves : {A : Type 0} → Rule A → Type 0
  Leaves {A} r = (ts : Tokens) (a : A) (rest : Tokens) → r ts a rest → Within whole ts → Within whole rest

  -- and what is spelled is so, with its formulas
  abbrev Keeps : {A : Type 0} → (A → Type 0) → Rule (With A) → Type 0
  Keeps {A} P r = (ts : Tokens) (x : With A) (rest : Tokens) → r ts x rest → Within whole ts → Within whole rest × P x.0 × FormulasStand n x.1

  closed : {A : Type 0} (P : A → Type 0) (x y : With A) (us rest : Tokens) → x ≡ y → us ≡ rest → Within whole us → P x.0 → FormulasStand n x.1 → Within whole rest × P y.0 × FormulasStand n y.1
  closed P x y us rest e r inside h fs = subst (λ z. Within whole rest × P z.0 × FormulasStand n z.1) e (subst (Within whole) r inside, h, fs)

  many-keeps : {A : Type 0} (P : A → Type 0) (r : Rule (With A)) → Keeps P r → (ts : Tokens) (xs : List (With A)) (rest : Tokens) → many r ts xs rest → Within whole ts →
      Within whole rest × AllByRecursion P (trees xs) × FormulasStand n (all_formulas xs)
  many-keeps P r h ts [] rest e inside = (subst (Within whole) e inside, tt, tt)
  many-keeps P r h ts (x ∷ xs) rest (middle, p, q) inside =
      let a = h ts x middle p inside in
      let b = many-keeps P r h middle xs rest q a.0 in
      (b.0, (a.1, b.1), each_append (λ (entry : ℕ × Formula). NextsStand n entry.1) x.1 (all_formulas xs) a.2 b.2)

  module _ (floor : ℕ → ℕ) (m : ℕ) where
    -- ---- formulas

    formula-stands : ((ts : Tokens) (f : Formula) (rest : Tokens) → formula_below floor m ts f rest → Within whole ts → NextsStand n f) → (ts : Tokens) (f : Formula) (rest : Tokens) → formula_at floor m ts f rest → Within whole ts → NextsStand n f
    formula-stands deeper ts f rest (inl (at, m0, p0, (o, m1, p1, (h, m2, p2, (c, m3, p3, (eq, r)))))) inside =
        let s0 = token-steps whole w.word_X ts at m0 p0 inside in
        let s1 = opener-steps whole floor m open_paren m0 o m1 p1 s0.0 in
        subst (NextsStand n) eq (token-stands w.word_X ts at m0 p0 inside, deeper m1 h m2 p2 s1.0)
    formula-stands deeper ts f rest (inr (inl (o, m0, p0, (c, m1, p1, (h, m2, p2, (eq, r)))))) inside =
        let s0 = opener-steps whole floor m w.word_if ts o m0 p0 inside in
        let s1 = condition-steps whole floor m m0 c m1 p1 s0.0 in
        subst (NextsStand n) eq (deeper m1 h m2 p2 s1.0)
    formula-stands deeper ts f rest (inr (inr (inl (at, m0, p0, (o, m1, p1, (a, m2, p2, (c, m3, p3, (b, m4, p4, (d, m5, p5, (eq, r)))))))))) inside = subst (NextsStand n) eq tt
    formula-stands deeper ts f rest (inr (inr (inr (e, m0, p0, (eq, r))))) inside = subst (NextsStand n) eq tt

  below-stands : (floor : ℕ → ℕ) (m : ℕ) (ts : Tokens) (f : Formula) (rest : Tokens) → formula_below floor m ts f rest → Within whole ts → NextsStand n f
  below-stands floor zero ts f rest h inside = absurd h
  below-stands floor (suc m) ts f rest h inside = formula-stands floor m (below-stands floor m) ts f rest h inside

  module _ (floor : ℕ → ℕ) (m : ℕ) where
    placed-stands : (ts : Tokens) (f : Formula × ℕ) (rest : Tokens) → placed (formula_at floor m) ts f rest → Within whole ts → Within whole rest × NextsStand n f.0
    placed-stands [] f rest p inside = absurd p
    placed-stands (t ∷ ts) f rest p inside = ((formula-steps whole floor (suc m) (t ∷ ts) f.0 rest p.0 inside).0, below-stands floor (suc m) (t ∷ ts) f.0 rest p.0 inside)

    -- ---- items

    claim-keeps : Keeps (ClaimsStand n) (claim floor m)
    claim-keeps ts y rest (x, m0, p0, (vars, m1, p1, (c, m2, p2, (a, m3, p3, (q, m4, p4, (f, m5, p5, (e, m6, p6, (eq, r)))))))) inside =
        let s0 = name-steps whole ts x m0 p0 inside in
        let s1 = brackets-steps whole floor m m0 vars m1 p1 s0.0 in
        let s2 = token-steps whole colon m1 c m2 p2 s1.0 in
        let s3 = token-steps whole w.word_assert m2 a m3 p3 s2.0 in
        let s4 = token-steps whole w.word_G m3 q m4 p4 s3.0 in
        let s5 = placed-stands m4 f m5 p5 s4.0 in
        let s6 = token-steps whole semicolon m5 e m6 p6 s5.0 in
        closed (ClaimsStand n) (claim_of x vars f) y m6 rest eq r s6.0 (claim-stands n x vars (body_of f.0 f.1) x.at (word-stands ts x m0 p0 inside)) (listed-stands n f.0 f.1 s5.1)

    -- what has no claim
    without-keeps : (r : Rule Item) → Leaves r → ((ts : Tokens) (x : Item) (rest : Tokens) → r ts x rest → ClaimsStand n x) → Keeps (ClaimsStand n) (without r)
    without-keeps r leaves none ts y rest (x, last, h, (same, end)) inside = closed (ClaimsStand n) (bare x) y last rest same end (leaves ts x last h inside) (none ts x last h) tt

    split-none : (ts : Tokens) (x : Item) (rest : Tokens) → g.split floor m (below floor m) ts x rest → ClaimsStand n x
    split-none ts x rest (at, m0, p0, (y, m1, p1, (xs, m2, p2, (c, m3, p3, (s, m4, p4, (d, m5, p5, (ps, m6, p6, (e, m7, p7, (eq, r))))))))) = subst (ClaimsStand n) eq (λ plan around. tt)

    using-none : (ts : Tokens) (x : Item) (rest : Tokens) → g.using floor m (below floor m) ts x rest → ClaimsStand n x
    using-none ts x rest (at, m0, p0, (us, m1, p1, (c, m2, p2, (rs, m3, p3, (e, m4, p4, (eq, r)))))) = subst (ClaimsStand n) eq (λ plan around. tt)

    item-keeps : Keeps (ClaimsStand n) (item_below floor m) → Keeps (ClaimsStand n) (item_rule floor m (item_below floor m))
    item-keeps inner ts y rest (inl (at, m0, p0, (b, m1, p1, (body, m2, p2, (eq, r))))) inside =
        let s0 = opener-steps whole floor m w.word_forall ts at m0 p0 inside in
        let s1 = binder-steps whole floor m m0 b m1 p1 s0.0 in
        let s2 = inner m1 body m2 p2 s1.0 in
        closed (ClaimsStand n) (forall_of b at body) y m2 rest eq r s2.0 (forall-stands n b.0 b.1 body.0 at s2.1) s2.2
    item-keeps inner ts y rest (inr (inl (at, m0, p0, (xs, m1, p1, (c, m2, p2, (eq, r)))))) inside =
        let s0 = opener-steps whole floor m open_brace ts at m0 p0 inside in
        let s1 = many-keeps (ClaimsStand n) (item_below floor m) inner m0 xs m1 p1 s0.0 in
        let s2 = token-steps whole close_brace m1 c m2 p2 s1.0 in
        closed (ClaimsStand n) (block_of xs) y m2 rest eq r s2.0 (block-stands n (trees xs) s1.1) s1.2
    item-keeps inner ts y rest (inr (inr (inl p))) inside = claim-keeps ts y rest p inside
    item-keeps inner ts y rest (inr (inr (inr (inl p)))) inside = without-keeps (g.split floor m (below floor m)) (λ us x last h i. (split-steps whole floor m us x last h i).0) split-none ts y rest p inside
    item-keeps inner ts y rest (inr (inr (inr (inr (inl p))))) inside = without-keeps (g.using floor m (below floor m)) (λ us x last h i. (using-steps whole floor m us x last h i).0) using-none ts y rest p inside
    item-keeps inner ts y rest (inr (inr (inr (inr (inr (act, last, h, (same, end))))))) inside =
        closed (ClaimsStand n) (bare (item.Act act)) y last rest same end (simple-steps whole floor m ts act last h inside).0 (λ plan around. tt) tt

    -- ---- bodies

    declaration-leaves : Leaves (g.declaration floor m (below floor m))
    declaration-leaves ts x rest (inl (how, m0, p0, h)) inside =
        let s0 = role-steps whole ts how m0 p0 inside in
        (declared-steps whole floor m how.0 (λ names. how.1) m0 x rest h s0.0).0
    declaration-leaves ts x rest (inr h) inside = (declared-steps whole floor m role.Plain g.place_of ts x rest h inside).0

    declaration-none : (ts : Tokens) (x : Item) (rest : Tokens) → g.declaration floor m (below floor m) ts x rest → ClaimsStand n x
    declaration-none ts x rest (inl (how, m0, p0, (xs, m1, p1, (c, m2, p2, (of, m3, p3, (s, m4, p4, (eq, r))))))) = subst (ClaimsStand n) eq (λ plan around. tt)
    declaration-none ts x rest (inr (xs, m1, p1, (c, m2, p2, (of, m3, p3, (s, m4, p4, (eq, r)))))) = subst (ClaimsStand n) eq (λ plan around. tt)

    instance-none : (ts : Tokens) (x : Item) (rest : Tokens) → g.instance floor m (below floor m) ts x rest → ClaimsStand n x
    instance-none ts x rest (xs, m0, p0, (c, m1, p1, (y, m2, p2, (o, m3, p3, (es, m4, p4, (d, m5, p5, (s, m6, p6, (eq, r)))))))) = subst (ClaimsStand n) eq (λ plan around. tt)

    layer-none : (ts : Tokens) (x : Item) (rest : Tokens) → g.layer floor m (below floor m) ts x rest → ClaimsStand n x
    layer-none ts x rest (at, m0, p0, (y, m1, p1, (c, m2, p2, (o, m3, p3, (xs, m4, p4, (d, m5, p5, (eq, r))))))) = subst (ClaimsStand n) eq (λ plan around. tt)

    body-keeps : Keeps (ClaimsStand n) (item_below floor m) → Keeps (ClaimsStand n) (body_rule floor m (item_below floor m))
    body-keeps inner ts y rest (inl p) inside = without-keeps (g.declaration floor m (below floor m)) declaration-leaves declaration-none ts y rest p inside
    body-keeps inner ts y rest (inr (inl p)) inside = without-keeps (g.instance floor m (below floor m)) (λ us x last h i. (instance-steps whole floor m us x last h i).0) instance-none ts y rest p inside
    body-keeps inner ts y rest (inr (inr (inl p))) inside = without-keeps (g.layer floor m (below floor m)) (λ us x last h i. (layer-steps whole floor m us x last h i).0) layer-none ts y rest p inside
    body-keeps inner ts y rest (inr (inr (inr p))) inside = item-keeps inner ts y rest p inside

  items-keep : (floor : ℕ → ℕ) (m : ℕ) → Keeps (ClaimsStand n) (item_below floor m)
  items-keep floor zero ts x rest p inside = absurd p
  items-keep floor (suc m) ts x rest p inside = item-keeps floor m (items-keep floor m) ts x rest p inside

  bodies-keep : (floor : ℕ → ℕ) (m : ℕ) → Keeps (ClaimsStand n) (body_below floor m)
  bodies-keep floor zero ts x rest p inside = absurd p
  bodies-keep floor (suc m) ts x rest p inside = body-keeps floor m (items-keep floor m) ts x rest p inside

  -- ---- the text

  module _ (floor : ℕ → ℕ) (m : ℕ) where
    top-keeps : Keeps (TopStands n) (top_rule floor m)
    top-keeps ts y rest (inl (s, m0, p0, (x, m1, p1, (o, m2, p2, (e, m3, p3, (eq, r)))))) inside =
        let s0 = token-steps whole w.word_scalarset ts s m0 p0 inside in
        let s1 = name-steps whole m0 x m1 p1 s0.0 in
        let s2 = extent-steps whole m1 o m2 p2 s1.0 in
        let s3 = token-steps whole semicolon m2 e m3 p3 s2.0 in
        closed (TopStands n) (bare (top.SetType x false o.0 o.1)) y m3 rest eq r s3.0 tt tt
    top-keeps ts y rest (inr (inl (s, m0, p0, (x, m1, p1, (o, m2, p2, (e, m3, p3, (eq, r))))))) inside =
        let s0 = token-steps whole w.word_ordset ts s m0 p0 inside in
        let s1 = name-steps whole m0 x m1 p1 s0.0 in
        let s2 = token-steps whole w.word_undefined m1 o m2 p2 s1.0 in
        let s3 = token-steps whole semicolon m2 e m3 p3 s2.0 in
        closed (TopStands n) (bare (top.SetType x true None o)) y m3 rest eq r s3.0 tt tt
    top-keeps ts y rest (inr (inr (inl (at, m0, p0, (x, m1, p1, (of, m2, p2, (e, m3, p3, (eq, r)))))))) inside =
        let s0 = token-steps whole w.word_typedef ts at m0 p0 inside in
        let s1 = name-steps whole m0 x m1 p1 s0.0 in
        let s2 = type-steps whole floor m m1 of m2 p2 s1.0 in
        let s3 = token-steps whole semicolon m2 e m3 p3 s2.0 in
        closed (TopStands n) (bare (top.Alias x of at)) y m3 rest eq r s3.0 tt tt
    top-keeps ts y rest (inr (inr (inr (at, m0, p0, (x, m1, p1, (o, m2, p2, (formals, m3, p3, (c, m4, p4, (b, m5, p5, (items, m6, p6, (e, m7, p7, (eq, r)))))))))))) inside =
        let s0 = token-steps whole w.word_module ts at m0 p0 inside in
        let s1 = name-steps whole m0 x m1 p1 s0.0 in
        let s2 = opener-steps whole floor m open_paren m1 o m2 p2 s1.0 in
        let s3 = names-steps whole m2 formals m3 p3 s2.0 in
        let s4 = token-steps whole close_paren m3 c m4 p4 s3.0 in
        let s5 = opener-steps whole floor m open_brace m4 b m5 p5 s4.0 in
        let s6 = many-keeps (ClaimsStand n) (body_below floor m) (bodies-keep floor m) m5 items m6 p6 s5.0 in
        let s7 = token-steps whole close_brace m6 e m7 p7 s6.0 in
        closed (TopStands n) (module_of at x formals items) y m7 rest eq r s7.0 s6.1 s6.2

-- the claims of a text and its formulas stand where its tokens do
pub text-stands : (n m : ℕ) (ts : Tokens) (ft : FormulaText) → Stands n ts → SpellsBy text_rule m ts ft → AllByRecursion (TopStands n) ft.text.tops × FormulasStand n ft.formulas
text-stands n m ts ft stands (xs, last, h, (eq, r)) =
    let s = many-keeps n ts stands (TopStands n) (top_rule (λ at. 0) m) (top-keeps n ts stands (λ at. 0) m) ts xs last h (all-among ts) in
    subst (λ (z : FormulaText). AllByRecursion (TopStands n) z.text.tops × FormulasStand n z.formulas) eq (s.1, s.2)
