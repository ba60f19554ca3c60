-- What texts with formulas spell has no name that no token has.
use Rattle.std.proofs.Common.{◌≡◌, ℕ, zero, suc, List, [], ◌∷◌, ◌++◌, None, Bool, true, false, refl, sym, subst}
use Rattle.std.specs.Str.{bytes_eq}
use Rattle.std.specs.List.{AllByRecursion, list_any}
use Rattle.std.proofs.lemmas.Bool.{or_from, or_parts}
use Rattle.std.proofs.lemmas.Slice.Eq.{bytes_eq-Decides}
use Rattle.law_lists.proofs.Each.{each_weaker}
use Rattle.smv_core.specs.Values.{Name}
use Rattle.smv_core.specs.FlatOrder.{modules}
use Rattle.smv_core.specs.declared.token.Token.{Token}
use Rattle.smv_core.specs.declared.token.TokenKind.{TokenKind}
use Rattle.smv_core.specs.declared.token.TokenKind.TheVariants.{Ident, Number, Sign, Reserved}
use Rattle.smv_core.specs.declared.tree.Word.{Word}
use Rattle.smv_core.specs.declared.tree.Expr.{Expr}
use Rattle.smv_core.specs.declared.tree.Expr as expr
use Rattle.smv_core.specs.declared.tree.Role.{Role}
use Rattle.smv_core.specs.declared.tree.Role.TheVariants as role
use Rattle.smv_core.specs.declared.tree.Item.{Item}
use Rattle.smv_core.specs.declared.tree.Item.TheVariants as item
use Rattle.smv_core.specs.declared.tree.Top.{Top}
use Rattle.smv_core.specs.declared.tree.Top.TheVariants as top
use Rattle.smv_core.specs.Signs.{open_paren, close_paren, open_brace, close_brace, colon, semicolon, comma}
use Rattle.smv_core.specs.Signs as w
use Rattle.smv_core.specs.Notation.{Tokens, Rule, ◌>>=◌, token, name, opener}
use Rattle.smv_core.specs.Grammar as g
use Rattle.smv_core.specs.Grammar.{Rules}
use Rattle.law_formulas.specs.Formulas.{Formula, now, next, when, weak, of_body, or_body}
use Rattle.law_watched_runs.specs.Extended.{IsOld, EachReadOver}
use Rattle.law_formula_trees.specs.Placed.{HoldsNoInstance, AreFlat}
use Rattle.law_fresh_monitors.specs.Names.{IsOldName, IsOldAct, IsOldItem, IsOldTop}
use Rattle.law_formula_texts.specs.Spelled.{body_for, formula_rule, claim_rule, item_with, body_with, top_with, below_with}
use Rattle.law_formula_texts.specs.Laws.{name_in, names_of, OtherNamesAreNowhere}
use Rattle.law_formula_texts.proofs.Rules.{KindOk, Any, NameHas, done, then, either, many-gives, placed-gives, token-gives, one_of-gives, name-gives, opener-gives, separated-gives, or_none-gives}
use Rattle.law_formula_texts.proofs.Forms.{Reads, InnerOld, BodyOld, inner-Block, inner-Forall, inner-body}
use Rattle.law_formula_texts.proofs.Productions.{Given, AreGood, none-good, all-good, expr-gives, simple-gives, brackets-gives, plain_ref-gives, use-gives, pair-gives, type-given, span-given}

module _ (fresh : List Name) (S : Tokens → Type 0) (rests : (t : Token) (ts : Tokens) → S (t ∷ ts) → S ts) (kinds : (t : Token) (ts : Tokens) → S (t ∷ ts) → KindOk (IsOldName fresh) t.kind) (formulas : List (ℕ × Formula)) where
  abbrev N : Name → Type 0
  N = IsOldName fresh

  seq : {A B : Type 0} {P : A → Type 0} {Q : B → Type 0} {r : Rule A} {s : A → Rule B} → Given fresh S rests kinds P r → ((a : A) → P a → Given fresh S rests kinds Q (s a)) → Given fresh S rests kinds Q (r >>= s)
  seq {A} {B} {P} {Q} {r} {s} h k = then N S rests kinds P Q r s h k

  tok : (k : TokenKind) → Given fresh S rests kinds Any (token k)
  tok k = token-gives N S rests kinds k

  abbrev pub FormulaOld : Formula → Type 0
  FormulaOld f = EachReadOver (IsOld fresh) f

  -- a claim's expression or formula
  abbrev ClaimOld : Expr → Type 0
  ClaimOld body = FormulaOld (or_body body (of_body formulas body))

  body-gives : (f : Formula) (at : ℕ) → FormulaOld f → Given fresh S rests kinds ClaimOld (body_for formulas f at)
  body-gives (now e) at h ts x rest (free, (q, r)) ok = (subst ClaimOld q (subst (λ o. FormulaOld (or_body e o)) (sym free) h), subst S r ok)
  body-gives (next place f) at h ts x rest (found, (q, r)) ok = (subst ClaimOld q (subst (λ o. FormulaOld (or_body (expr.Number 1 at) o)) (sym found) h), subst S r ok)
  body-gives (when c f) at h ts x rest (found, (q, r)) ok = (subst ClaimOld q (subst (λ o. FormulaOld (or_body (expr.Number 1 at) o)) (sym found) h), subst S r ok)
  body-gives (weak p q) at h ts x rest (found, (e, r)) ok = (subst ClaimOld e (subst (λ o. FormulaOld (or_body (expr.Number 1 at) o)) (sym found) h), subst S r ok)

  module _ (floor : ℕ → ℕ) (n : ℕ) (inner : Rules) (inner_formula : Rule Formula) (good : AreGood fresh S rests kinds inner) (items : Given fresh S rests kinds (InnerOld fresh formulas) inner.item) (deeper : Given fresh S rests kinds FormulaOld inner_formula) where
    open-gives : (k : TokenKind) → Given fresh S rests kinds Any (opener floor n k)
    open-gives k = opener-gives N S rests kinds floor n k

    pub formula-gives : Given fresh S rests kinds FormulaOld (formula_rule floor n inner inner_formula)
    formula-gives =
        either N S rests kinds FormulaOld _ _ (seq (tok w.word_X) (λ at _. seq (open-gives open_paren) (λ _ _. seq deeper (λ f h. seq (tok close_paren) (λ _ _. done N S rests kinds FormulaOld (next at f) h)))))
        (either N S rests kinds FormulaOld _ _ (seq (open-gives w.word_if) (λ _ _. seq good.condition_good (λ c h. seq deeper (λ f k. done N S rests kinds FormulaOld (when c f) (h, k)))))
        (either N S rests kinds FormulaOld _ _ (seq (tok w.word_W) (λ _ _. seq (open-gives open_paren) (λ _ _. seq good.expr_good (λ p h. seq (tok comma) (λ _ _. seq good.expr_good (λ q k. seq (tok close_paren) (λ _ _. done N S rests kinds FormulaOld (weak p q) (h, k))))))))
        (seq (expr-gives fresh S rests kinds floor n inner good) (λ e h. done N S rests kinds FormulaOld (now e) h))))

    claim-gives : Given fresh S rests kinds (InnerOld fresh formulas) (claim_rule floor n inner inner_formula formulas)
    claim-gives = seq (name-gives N S rests kinds) (λ x _. seq (many-gives N S rests kinds (NameHas N) (g.in_brackets floor n inner) (brackets-gives fresh S rests kinds floor n inner good)) (λ vars _. seq (tok colon) (λ _ _. seq (tok w.word_assert) (λ _ _. seq (tok w.word_G) (λ _ _.
        seq (placed-gives N S rests kinds FormulaOld (formula_rule floor n inner inner_formula) formula-gives) (λ f h. seq (body-gives f.0 f.1 h) (λ body k. seq (tok semicolon) (λ _ _. done N S rests kinds (InnerOld fresh formulas) (item.Claim x vars body x.at) (k, tt)))))))))

    pub split-gives : Given fresh S rests kinds (InnerOld fresh formulas) (g.split floor n inner)
    split-gives = seq (tok w.word_subcase) (λ at _. seq (name-gives N S rests kinds) (λ x _. seq (many-gives N S rests kinds (NameHas N) (g.in_brackets floor n inner) (brackets-gives fresh S rests kinds floor n inner good)) (λ vars _. seq (tok w.word_of) (λ _ _. seq (plain_ref-gives fresh S rests kinds floor n inner good) (λ of _. seq (tok w.word_for) (λ _ _.
        seq (separated-gives N S rests kinds Any (g.pair floor n inner) (pair-gives fresh S rests kinds floor n inner good)) (λ pairs _. seq (tok semicolon) (λ _ _. done N S rests kinds (InnerOld fresh formulas) (item.Split x vars of pairs at) (tt, tt)))))))))

    pub using-gives : Given fresh S rests kinds (InnerOld fresh formulas) (g.using floor n inner)
    using-gives = seq (tok w.word_using) (λ at _. seq (separated-gives N S rests kinds Any (g.use_rule floor n inner) (use-gives fresh S rests kinds floor n inner good)) (λ us _. seq (tok w.word_prove) (λ _ _.
        seq (separated-gives N S rests kinds Any (g.ref floor n inner) (plain_ref-gives fresh S rests kinds floor n inner good)) (λ proves _. seq (tok semicolon) (λ _ _. done N S rests kinds (InnerOld fresh formulas) (item.Using us proves at) (tt, tt))))))

    item-gives : Given fresh S rests kinds (InnerOld fresh formulas) (item_with floor n inner inner_formula formulas)
    item-gives =
        either N S rests kinds (InnerOld fresh formulas) _ _ (seq (open-gives w.word_forall) (λ at _. seq good.binder_good (λ b own. seq items (λ body h. done N S rests kinds (InnerOld fresh formulas) (item.Forall b.0 b.1 body at) (inner-Forall fresh formulas b.0 b.1 body at own h)))))
        (either N S rests kinds (InnerOld fresh formulas) _ _ (seq (open-gives open_brace) (λ _ _. seq (many-gives N S rests kinds (InnerOld fresh formulas) inner.item items) (λ xs h. seq (tok close_brace) (λ _ _. done N S rests kinds (InnerOld fresh formulas) (item.Block xs) (inner-Block fresh formulas xs h)))))
        (either N S rests kinds (InnerOld fresh formulas) _ _ claim-gives (either N S rests kinds (InnerOld fresh formulas) _ _ split-gives (either N S rests kinds (InnerOld fresh formulas) _ _ using-gives
        (seq (simple-gives fresh S rests kinds floor n inner good) (λ x h. done N S rests kinds (InnerOld fresh formulas) (item.Act x) (h, tt)))))))

    pub declared-gives : (how : Role) (at : List Word → ℕ) → Given fresh S rests kinds (BodyOld fresh formulas) (g.declared floor n inner how at)
    declared-gives how at = seq (separated-gives N S rests kinds (NameHas N) name (name-gives N S rests kinds)) (λ names h. seq (tok colon) (λ _ _. seq (type-given fresh S rests kinds floor n inner good) (λ of k. seq (tok semicolon) (λ _ _. done N S rests kinds (BodyOld fresh formulas) (item.Declare how names of (at names)) ((h, k), tt)))))

    pub instance-gives : Given fresh S rests kinds (BodyOld fresh formulas) (g.instance floor n inner)
    instance-gives = seq (separated-gives N S rests kinds (NameHas N) name (name-gives N S rests kinds)) (λ names _. seq (tok colon) (λ _ _. seq (name-gives N S rests kinds) (λ m _. seq (open-gives open_paren) (λ _ _. seq (or_none-gives N S rests kinds (Reads fresh) inner.expr good.expr_good) (λ args h. seq (tok close_paren) (λ _ _. seq (tok semicolon) (λ _ _.
        done N S rests kinds (BodyOld fresh formulas) (item.Instance names m args (g.place_of names)) (h, tt))))))))

    pub layer-gives : Given fresh S rests kinds (BodyOld fresh formulas) (g.layer floor n inner)
    layer-gives = seq (tok w.word_layer) (λ at _. seq (name-gives N S rests kinds) (λ x own. seq (tok colon) (λ _ _. seq (open-gives open_brace) (λ _ _. seq (many-gives N S rests kinds (IsOldAct fresh) inner.stmt good.stmt_good) (λ body h. seq (tok close_brace) (λ _ _.
        done N S rests kinds (BodyOld fresh formulas) (item.Layer x body at) ((own, h), tt)))))))

    body-rule-gives : Given fresh S rests kinds (BodyOld fresh formulas) (body_with floor n inner inner_formula formulas)
    body-rule-gives =
        either N S rests kinds (BodyOld fresh formulas) _ _ (either N S rests kinds (BodyOld fresh formulas) _ _ (seq (one_of-gives N S rests kinds ((w.word_abstract, role.Abstract) ∷ (w.word_input, role.Input) ∷ (w.word_output, role.Output) ∷ [])) (λ r _. declared-gives r.0 (λ names. r.1))) (declared-gives role.Plain g.place_of))
        (either N S rests kinds (BodyOld fresh formulas) _ _ instance-gives (either N S rests kinds (BodyOld fresh formulas) _ _ layer-gives (λ ts x rest p ok. let u = item-gives ts x rest p ok in (inner-body fresh formulas x u.0, u.1))))

  -- ---- levels

  pub record IsGood (r : Rules × Rule Formula) : Type 0 where
    pub plain : AreGood fresh S rests kinds r.0
    pub inner_item : Given fresh S rests kinds (InnerOld fresh formulas) r.0.item
    pub inner_body : Given fresh S rests kinds (BodyOld fresh formulas) r.0.body
    pub inner_formula : Given fresh S rests kinds FormulaOld r.1

  pub below-good : (floor : ℕ → ℕ) (n : ℕ) → IsGood (below_with formulas floor n)
  below-good floor zero = record { plain = none-good fresh S rests kinds; inner_item = λ ts a rest h ok. absurd h; inner_body = λ ts a rest h ok. absurd h; inner_formula = λ ts a rest h ok. absurd h }
  below-good floor (suc n) =
      let r = below_with formulas floor n in
      let h = below-good floor n in
      record {
        plain = all-good fresh S rests kinds floor n r.0 h.plain (item_with floor n r.0 r.1 formulas) (body_with floor n r.0 r.1 formulas);
        inner_item = item-gives floor n r.0 r.1 h.plain h.inner_item h.inner_formula;
        inner_body = body-rule-gives floor n r.0 r.1 h.plain h.inner_item h.inner_formula;
        inner_formula = formula-gives floor n r.0 r.1 h.plain h.inner_item h.inner_formula;
      }

  -- ---- the text

  abbrev IsFlatTop : Top → Type 0
  IsFlatTop (top.Module word formals body at) = AllByRecursion HoldsNoInstance body
  IsFlatTop _ = Unit {0}

  abbrev TopOld : Top → Type 0
  TopOld x = IsOldTop fresh formulas x × IsFlatTop x

  pub extent-gives : Given fresh S rests kinds Any g.extent
  extent-gives = either N S rests kinds Any _ _ (seq (tok w.word_undefined) (λ at _. done N S rests kinds Any _ tt)) (seq (span-given fresh S rests kinds) (λ s _. done N S rests kinds Any _ tt))

  both-parts : (body : List Item) → AllByRecursion (BodyOld fresh formulas) body → AllByRecursion (IsOldItem fresh formulas) body × AllByRecursion HoldsNoInstance body
  both-parts [] h = (tt, tt)
  both-parts (x ∷ body) h = let r = both-parts body h.1 in ((h.0.0, r.0), (h.0.1, r.1))

  pub top-gives : (floor : ℕ → ℕ) (n : ℕ) → Given fresh S rests kinds TopOld (top_with floor n (below_with formulas floor n).0 (below_with formulas floor n).1 formulas)
  top-gives floor n =
      let r = below_with formulas floor n in
      let h = below-good floor n in
      either N S rests kinds TopOld _ _ (seq (tok w.word_scalarset) (λ _ _. seq (name-gives N S rests kinds) (λ x _. seq extent-gives (λ s _. seq (tok semicolon) (λ _ _. done N S rests kinds TopOld (top.SetType x false s.0 s.1) (tt, tt))))))
      (either N S rests kinds TopOld _ _ (seq (tok w.word_ordset) (λ _ _. seq (name-gives N S rests kinds) (λ x _. seq (tok w.word_undefined) (λ at _. seq (tok semicolon) (λ _ _. done N S rests kinds TopOld (top.SetType x true None at) (tt, tt))))))
      (either N S rests kinds TopOld _ _ (seq (tok w.word_typedef) (λ at _. seq (name-gives N S rests kinds) (λ x _. seq (type-given fresh S rests kinds floor n r.0 h.plain) (λ of k. seq (tok semicolon) (λ _ _. done N S rests kinds TopOld (top.Alias x of at) (k, tt))))))
      (seq (tok w.word_module) (λ at _. seq (name-gives N S rests kinds) (λ x _. seq (opener-gives N S rests kinds floor n open_paren) (λ _ _. seq (or_none-gives N S rests kinds (NameHas N) name (name-gives N S rests kinds)) (λ formals k. seq (tok close_paren) (λ _ _. seq (opener-gives N S rests kinds floor n open_brace) (λ _ _.
      seq (many-gives N S rests kinds (BodyOld fresh formulas) r.0.body h.inner_body) (λ body q. seq (tok close_brace) (λ _ _. let parts = both-parts body q in done N S rests kinds TopOld (top.Module x formals body at) ((k, parts.0), parts.1))))))))))))

  flat-tops : (tops : List Top) → AllByRecursion TopOld tops → AreFlat (modules tops)
  flat-tops [] h = tt
  flat-tops (top.SetType word ordered span at ∷ tops) h = flat-tops tops h.1
  flat-tops (top.Alias word of at ∷ tops) h = flat-tops tops h.1
  flat-tops (top.Module word formals body at ∷ tops) h = (h.0.1, flat-tops tops h.1)

-- ---- names that are no tokens

no-token : (names : List Name) (b : Name) (more : List Name) → AllByRecursion (λ name. list_any (bytes_eq name) (b ∷ more) ≡ false) names → IsOldName names b × AllByRecursion (λ name. list_any (bytes_eq name) more ≡ false) names
no-token [] b more h = (refl, tt)
no-token (name ∷ names) b more h =
    let parts = or_parts (bytes_eq name b) (list_any (bytes_eq name) more) h.0 in
    let rest = no-token names b more h.1 in
    (or_from (bytes_eq b name) (list_any (bytes_eq b) names) (turn (bytes_eq b name) refl parts.0) rest.0, (parts.1, rest.1))
  where
    turn : (t : Bool) → bytes_eq b name ≡ t → bytes_eq name b ≡ false → t ≡ false
    turn false e k = refl
    turn true e k = absurd (cc (sym ((bytes_eq-Decides name b).1 (sym ((bytes_eq-Decides b name).0 e))), k))

abbrev AreOk : List Name → Tokens → Type 0
AreOk names [] = Unit {0}
AreOk names (t ∷ ts) = KindOk (IsOldName names) t.kind × AreOk names ts

all-ok : (names : List Name) (ts : Tokens) → AllByRecursion (λ name. list_any (bytes_eq name) (names_of ts) ≡ false) names → AreOk names ts
all-ok names [] h = tt
all-ok names (t ∷ ts) h = by_kind t.kind h (all-ok names ts)
  where
    by_kind : (k : TokenKind) → AllByRecursion (λ name. list_any (bytes_eq name) (name_in k ++ names_of ts) ≡ false) names → (AllByRecursion (λ name. list_any (bytes_eq name) (names_of ts) ≡ false) names → AreOk names ts) → KindOk (IsOldName names) k × AreOk names ts
    by_kind (Ident bytes) k rest = let r = no-token names bytes (names_of ts) k in (r.0, rest r.1)
    by_kind (Number value) k rest = (tt, rest k)
    by_kind (Sign i) k rest = (tt, rest k)
    by_kind (Reserved i) k rest = (tt, rest k)

pub nowhere : OtherNamesAreNowhere
nowhere n ts ft names spelled none =
    let rests : (t : Token) (us : Tokens) → AreOk names (t ∷ us) → AreOk names us = λ t us ok. ok.1 in
    let kinds : (t : Token) (us : Tokens) → AreOk names (t ∷ us) → KindOk (IsOldName names) t.kind = λ t us ok. ok.0 in
    let tops = (many-gives (IsOldName names) (AreOk names) rests kinds (TopOld names (AreOk names) rests kinds ft.formulas) _ (top-gives names (AreOk names) rests kinds ft.formulas (λ at. 0) n) ts ft.text.tops [] spelled.text (all-ok names ts none)).0 in
    (each_weaker (TopOld names (AreOk names) rests kinds ft.formulas) (IsOldTop names ft.formulas) (λ x h. h.0) ft.text.tops tops, flat-tops names (AreOk names) rests kinds ft.formulas ft.text.tops tops)
