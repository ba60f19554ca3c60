-- The names in the brackets of claims, and those of tops, are tokens of the text.
use Rattle.std.proofs.Common.{◌≡◌, ◌≤◌, ℕ, zero, suc, List, [], ◌∷◌, ◌++◌, flat_map, inl, inr, Option, Some, None, Bool, true, false, ◌||◌, ◌&&◌, if◌then◌else◌, refl, sym, ap, subst, arith}
use Rattle.std.specs.List.{AllByRecursion, AllZip, list_any}
use Rattle.std.specs.Str.{bytes_eq}
use Rattle.std.proofs.lemmas.Slice.Eq.{bytes_eq-Decides}
use Rattle.smv_core.specs.Values.{Name}
use Rattle.smv_core.specs.FlatOrder.{main}
use Rattle.smv_core.specs.declared.token.TokenKind.{TokenKind}
use Rattle.smv_core.specs.declared.token.TokenKind.TheVariants.{Ident, Number, Sign, Reserved}
use Rattle.smv_core.specs.declared.tree.Word.{Word}
use Rattle.smv_core.specs.declared.tree.TypeExpr.{TypeExpr}
use Rattle.smv_core.specs.declared.tree.Expr.{Expr}
use Rattle.smv_core.specs.declared.tree.Item.{Item, Declare, Instance, Layer, Forall', Block', Claim, Split, Using, Act, Row_of-Item, end_of-Item, more_of-Item, items-the_row-Item, items_hidden-the_row-Item-1}
use Rattle.smv_core.specs.declared.tree.Item.TheVariants as item
use Rattle.smv_core.specs.declared.tree.Role.TheVariants as role
use Rattle.smv_core.specs.declared.tree.Top.{Top}
use Rattle.smv_core.specs.declared.tree.Top.TheVariants.{SetType, Alias, Module}
use Rattle.smv_core.specs.Signs as w
use Rattle.smv_core.specs.Signs.{open_paren, close_paren, open_bracket, open_brace}
use Rattle.smv_core.specs.Notation.{Tokens, Rule, many, token, name, name_of}
use Rattle.smv_core.specs.Grammar as g
use Rattle.law_spelled_alike.specs.Local.{AllKinds, IsLocal, Any, SameName}
use Rattle.law_spelled_alike.proofs.Combining.{local-token, local-opener}
use Rattle.law_texts_spelled_alike.proofs.PlacelessStatements.{computing, items_in}
use Rattle.law_texts_spelled_alike.proofs.Texts as texts
use Rattle.law_texts_spelled_alike.proofs.Texts.{T, all, free, names, SameBinder, SameItem, SameTop}
use Rattle.law_strengthened_texts.specs.Stronger.{Found, claims_in, all_claims_in, main_claims, is_ordset}

abbrev z : ℕ → ℕ
z at = 0

-- something holds of each name that is a token
module _ (N : Name → Type 0) where
  abbrev pub NameOk : TokenKind → Type 0
  NameOk k = (b : Name) → k ≡ Ident b → N b

  abbrev pub AreOk : Tokens → Type 0
  AreOk ts = AllKinds NameOk ts

  ok-behind : (xs ys : Tokens) → AreOk (xs ++ ys) → AreOk ys
  ok-behind [] ys h = h
  ok-behind (x ∷ xs) ys h = ok-behind xs ys h.1

  ok-after : {A B : Type 0} (R : A → B → Type 0) (r : Rule A) (r' : Rule B) → IsLocal T R r r' → (ts : Tokens) (a : A) (rest : Tokens) → r ts a rest → AreOk ts → AreOk rest
  ok-after R r r' f ts a rest p h = let u = f ts a rest p in ok-behind u.front rest (subst AreOk u.split h)

  name-kind : (at : ℕ) (k : TokenKind) (x : Word) → name_of at k ≡ Some x → k ≡ Ident x.name
  name-kind at (Ident bytes) x e = ap (λ (o : Option Word). kind_of o) e
    where
      kind_of : Option Word → TokenKind
      kind_of None = Ident bytes
      kind_of (Some word) = Ident word.name
  name-kind at (Number n) x e = absurd (cc (e))
  name-kind at (Sign i) x e = absurd (cc (e))
  name-kind at (Reserved i) x e = absurd (cc (e))

  name-ok : (ts : Tokens) (x : Word) (rest : Tokens) → name ts x rest → AreOk ts → N x.name
  name-ok [] x rest p h = absurd p
  name-ok (t ∷ ts) x rest p h = h.0 x.name (name-kind t.at t.kind x p.0)

  abbrev pub WordsOk : List Word → Type 0
  WordsOk words = AllByRecursion (λ (v : Word). N v.name) words

  abbrev mutual
    -- it holds of the names in the brackets of an item's claims
    pub VarsOk : Item → Type 0
    VarsOk (Forall' word over shape items at) = RowOk items
    VarsOk (Block' shape items) = RowOk items
    VarsOk (Claim word vars body at) = WordsOk vars
    VarsOk _ = Unit {0}

    pub RowOk : {m : _} → Row_of-Item m → Type 0
    RowOk end_of-Item = Unit {0}
    RowOk (more_of-Item item rest) = VarsOk item × RowOk rest

  forall-ok : (v : Word) (over : TypeExpr) (body : Item) (at : ℕ) → VarsOk body → VarsOk (item.Forall v over body at)
  unfolding computing
  forall-ok v over body at h = (h, tt)

  row-ok : (m : _) (row : Row_of-Item m) → AllByRecursion VarsOk (items-the_row-Item m row) → RowOk row
  row-ok m end_of-Item h = tt
  row-ok m (more_of-Item a rest) h = (h.0, row-ok _ rest h.1)

  block-ok : (items : List Item) → AllByRecursion VarsOk items → VarsOk (item.Block items)
  block-ok items h = row-ok _ (items_in (item.Block items)).1 (subst (AllByRecursion VarsOk) (sym (items_hidden-the_row-Item-1 items)) h)

  claim-ok : (x : Word) (vars : List Word) (body : Expr) (at : ℕ) → WordsOk vars → VarsOk (item.Claim x vars body at)
  unfolding computing
  claim-ok x vars body at h = h

  split-ok : (x : Word) (vars : List Word) (of : _) (pairs : _) (at : ℕ) → VarsOk (item.Split x vars of pairs at)
  unfolding computing
  split-ok x vars of pairs at = tt

  using-ok : (us : _) (proves : _) (at : ℕ) → VarsOk (item.Using us proves at)
  unfolding computing
  using-ok us proves at = tt

  act-ok : (act : _) → VarsOk (item.Act act)
  unfolding computing
  act-ok act = tt

  declare-ok : (r : _) (xs : List Word) (of : TypeExpr) (at : ℕ) → VarsOk (item.Declare r xs of at)
  unfolding computing
  declare-ok r xs of at = tt

  instance-ok : (xs : List Word) (m : Word) (args : List Expr) (at : ℕ) → VarsOk (item.Instance xs m args at)
  unfolding computing
  instance-ok xs m args at = tt

  layer-ok : (x : Word) (body : _) (at : ℕ) → VarsOk (item.Layer x body at)
  unfolding computing
  layer-ok x body at = tt

  module _ (n : ℕ) where
    abbrev inner : g.Rules
    inner = g.below z n

    le : n ≤ n
    le = omega arith

    l : texts.InnerRules inner inner
    l = texts.inner-rules n n le

    brackets-ok : (ts : Tokens) (vars : List Word) (rest : Tokens) → many (g.in_brackets z n inner) ts vars rest → AreOk ts → WordsOk vars
    brackets-ok ts [] rest p h = tt
    brackets-ok ts (v ∷ vars) rest (mid, p, q) h = (one p, brackets-ok mid vars rest q (ok-after SameName (g.in_brackets z n inner) (g.in_brackets z n inner) (texts.local-in_brackets n n le inner inner l) ts v mid p h))
      where
        one : g.in_brackets z n inner ts v mid → N v.name
        one (at, m0, p0, (x, m1, p1, (k, m2, p2, (eq, r)))) = subst (λ (y : Word). N y.name) eq (name-ok m0 x m1 p1 (ok-after Any _ _ (local-opener all n n le open_bracket (free open_bracket)) ts at m0 p0 h))

    abbrev IsDeeper : Type 0
    IsDeeper = (ts : Tokens) (a : Item) (rest : Tokens) → inner.item ts a rest → AreOk ts → VarsOk a

    module _ (deeper : IsDeeper) where
      many-ok : (ts : Tokens) (xs : List Item) (rest : Tokens) → many inner.item ts xs rest → AreOk ts → AllByRecursion VarsOk xs
      many-ok ts [] rest p h = tt
      many-ok ts (a ∷ xs) rest (mid, p, q) h = (deeper ts a mid p h, many-ok mid xs rest q (ok-after SameItem inner.item inner.item l.item ts a mid p h))

      item-ok : (ts : Tokens) (a : Item) (rest : Tokens) → g.item_rule z n inner ts a rest → AreOk ts → VarsOk a
      item-ok ts a rest (inl (at, m0, p0, (b, m1, p1, (body, m2, p2, (eq, r))))) h =
          let h0 = ok-after Any _ _ (local-opener all n n le w.word_forall (free w.word_forall)) ts at m0 p0 h in
          let h1 = ok-after SameBinder inner.binder inner.binder l.binder m0 b m1 p1 h0 in
          subst VarsOk eq (forall-ok b.0 b.1 body at (deeper m1 body m2 p2 h1))
      item-ok ts a rest (inr (inl (at, m0, p0, (xs, m1, p1, (c, m2, p2, (eq, r)))))) h =
          let h0 = ok-after Any _ _ (local-opener all n n le open_brace (free open_brace)) ts at m0 p0 h in
          subst VarsOk eq (block-ok xs (many-ok m0 xs m1 p1 h0))
      item-ok ts a rest (inr (inr (inl (x, m0, p0, (vars, m1, p1, (c, m2, p2, (s, m3, p3, (k, m4, p4, (body, m5, p5, (e, m6, p6, (eq, r))))))))))) h =
          let h0 = ok-after SameName name name names ts x m0 p0 h in
          subst VarsOk eq (claim-ok x vars body x.at (brackets-ok m0 vars m1 p1 h0))
      item-ok ts a rest (inr (inr (inr (inl (at, m0, p0, (x, m1, p1, (xs, m2, p2, (c, m3, p3, (s, m4, p4, (d, m5, p5, (ps, m6, p6, (k, m7, p7, (eq, r))))))))))))) h = subst VarsOk eq (split-ok x xs s ps at)
      item-ok ts a rest (inr (inr (inr (inr (inl (at, m0, p0, (us, m1, p1, (c, m2, p2, (rs, m3, p3, (k, m4, p4, (eq, r))))))))))) h = subst VarsOk eq (using-ok us rs at)
      item-ok ts a rest (inr (inr (inr (inr (inr (x, m0, p0, (eq, r))))))) h = subst VarsOk eq (act-ok x)

      body-ok : (ts : Tokens) (a : Item) (rest : Tokens) → g.body_rule z n inner ts a rest → AreOk ts → VarsOk a
      body-ok ts a rest (inl (inl (k, m0, p0, (xs, m1, p1, (c, m2, p2, (of, m3, p3, (s, m4, p4, (eq, r)))))))) h = subst VarsOk eq (declare-ok k.0 xs of k.1)
      body-ok ts a rest (inl (inr (xs, m1, p1, (c, m2, p2, (of, m3, p3, (s, m4, p4, (eq, r))))))) h = subst VarsOk eq (declare-ok role.Plain xs of (g.place_of xs))
      body-ok ts a rest (inr (inl (xs, m0, p0, (c, m1, p1, (x, m2, p2, (o, m3, p3, (es, m4, p4, (k, m5, p5, (s, m6, p6, (eq, r)))))))))) h = subst VarsOk eq (instance-ok xs x es (g.place_of xs))
      body-ok ts a rest (inr (inr (inl (at, m0, p0, (x, m1, p1, (c, m2, p2, (o, m3, p3, (xs, m4, p4, (k, m5, p5, (eq, r)))))))))) h = subst VarsOk eq (layer-ok x xs at)
      body-ok ts a rest (inr (inr (inr p))) h = item-ok ts a rest p h

  deeper-items : (n : ℕ) → IsDeeper n
  deeper-items zero ts a rest p h = absurd p
  deeper-items (suc n) ts a rest p h = item-ok n (deeper-items n) ts a rest p h

  deeper-bodies : (n : ℕ) (ts : Tokens) (a : Item) (rest : Tokens) → (g.below z n).body ts a rest → AreOk ts → VarsOk a
  deeper-bodies zero ts a rest p h = absurd p
  deeper-bodies (suc n) ts a rest p h = body-ok n (deeper-items n) ts a rest p h

  module _ (n : ℕ) where
    bodies-ok : (ts : Tokens) (xs : List Item) (rest : Tokens) → many (g.below z n).body ts xs rest → AreOk ts → AllByRecursion VarsOk xs
    bodies-ok ts [] rest p h = tt
    bodies-ok ts (a ∷ xs) rest (mid, p, q) h = (deeper-bodies n ts a mid p h, bodies-ok mid xs rest q (ok-after SameItem (g.below z n).body (g.below z n).body (l n).body ts a mid p h))

    -- it holds of a top's own name, and of those in the brackets of its claims
    abbrev pub TopOk : Top → Type 0
    TopOk (SetType word ordered span at) = N word.name
    TopOk (Alias word of at) = N word.name
    TopOk (Module word formals body at) = N word.name × AllByRecursion VarsOk body

    second : (k : TokenKind) (ts : Tokens) (at : ℕ) (m0 : Tokens) (x : Word) (m1 : Tokens) → token k ts at m0 → name m0 x m1 → AreOk ts → N x.name
    second k ts at m0 x m1 p q h = name-ok m0 x m1 q (ok-after Any (token k) (token k) (local-token all k (free k)) ts at m0 p h)

    top-ok : (ts : Tokens) (a : Top) (rest : Tokens) → g.top_rule z n (g.below z n) ts a rest → AreOk ts → TopOk a
    top-ok ts a rest (inl (s, m0, p0, (x, m1, p1, (o, m2, p2, (k, m3, p3, (eq, r)))))) h = subst TopOk eq (second w.word_scalarset ts s m0 x m1 p0 p1 h)
    top-ok ts a rest (inr (inl (s, m0, p0, (x, m1, p1, (o, m2, p2, (k, m3, p3, (eq, r))))))) h = subst TopOk eq (second w.word_ordset ts s m0 x m1 p0 p1 h)
    top-ok ts a rest (inr (inr (inl (s, m0, p0, (x, m1, p1, (o, m2, p2, (k, m3, p3, (eq, r)))))))) h = subst TopOk eq (second w.word_typedef ts s m0 x m1 p0 p1 h)
    top-ok ts a rest (inr (inr (inr (at, m0, p0, (x, m1, p1, (o, m2, p2, (xs, m3, p3, (c, m4, p4, (b, m5, p5, (is, m6, p6, (k, m7, p7, (eq, r)))))))))))) h =
        let h0 = ok-after Any (token w.word_module) (token w.word_module) (local-token all w.word_module (free w.word_module)) ts at m0 p0 h in
        let h1 = ok-after SameName name name names m0 x m1 p1 h0 in
        let h2 = ok-after Any _ _ (local-opener all n n (le n) open_paren (free open_paren)) m1 o m2 p2 h1 in
        let h3 = ok-after (AllZip SameName) _ _ (texts.local-formals n n (le n) (g.below z n) (g.below z n) (l n)) m2 xs m3 p3 h2 in
        let h4 = ok-after Any (token close_paren) (token close_paren) (local-token all close_paren (free close_paren)) m3 c m4 p4 h3 in
        let h5 = ok-after Any _ _ (local-opener all n n (le n) open_brace (free open_brace)) m4 b m5 p5 h4 in
        subst TopOk eq (name-ok m0 x m1 p1 h0, bodies-ok m5 is m6 p6 h5)

    pub tops-ok : (ts : Tokens) (xs : List Top) (rest : Tokens) → many (g.top_rule z n (g.below z n)) ts xs rest → AreOk ts → AllByRecursion TopOk xs
    tops-ok ts [] rest p h = tt
    tops-ok ts (a ∷ xs) rest (mid, p, q) h = (top-ok ts a mid p h, tops-ok mid xs rest q (ok-after SameTop _ _ (texts.local-top n n (le n) (g.below z n) (g.below z n) (l n)) ts a mid p h))

    -- ---- the claims of `main`

    abbrev pub FoundOk : Found → Type 0
    FoundOk c = WordsOk c.vars

    each-append : (xs ys : List Found) → AllByRecursion FoundOk xs → AllByRecursion FoundOk ys → AllByRecursion FoundOk (xs ++ ys)
    each-append [] ys p q = q
    each-append (x ∷ xs) ys p q = (p.0, each-append xs ys p.1 q)

    mutual
      claims-ok : (around : List (Word × TypeExpr)) (a : Item) → VarsOk a → AllByRecursion FoundOk (claims_in around a)
      claims-ok around (Declare role xs of at) h = tt
      claims-ok around (Instance xs m args at) h = tt
      claims-ok around (Layer word body at) h = tt
      claims-ok around (Forall' word over shape items at) h = rows-ok (around ++ (word, over) ∷ []) items h
      claims-ok around (Block' shape items) h = rows-ok around items h
      claims-ok around (Claim word vars body at) h = (h, tt)
      claims-ok around (Split word vars of pairs at) h = tt
      claims-ok around (Using uses proves at) h = tt
      claims-ok around (Act act) h = tt

      rows-ok : {m : _} (around : List (Word × TypeExpr)) (row : Row_of-Item m) → RowOk row → AllByRecursion FoundOk (all_claims_in around row)
      rows-ok around end_of-Item h = tt
      rows-ok around (more_of-Item a rest) h = each-append (claims_in around a) (all_claims_in around rest) (claims-ok around a h.0) (rows-ok around rest h.1)

    list-ok : (items : List Item) → AllByRecursion VarsOk items → AllByRecursion FoundOk (flat_map (claims_in []) items)
    list-ok [] h = tt
    list-ok (a ∷ items) h = each-append (claims_in [] a) (flat_map (claims_in []) items) (claims-ok [] a h.0) (list-ok items h.1)

    pub mains-ok : (tops : List Top) → AllByRecursion TopOk tops → AllByRecursion FoundOk (main_claims tops)
    mains-ok [] h = tt
    mains-ok (SetType word ordered span at ∷ tops) h = mains-ok tops h.1
    mains-ok (Alias word of at ∷ tops) h = mains-ok tops h.1
    mains-ok (Module word formals body at ∷ tops) h = each-append (if bytes_eq word.name main then flat_map (claims_in []) body else []) (main_claims tops) (by_test (bytes_eq word.name main)) (mains-ok tops h.1)
      where
        by_test : (b : Bool) → AllByRecursion FoundOk (if b then flat_map (claims_in []) body else [])
        by_test true = list-ok body h.0.1
        by_test false = tt

    pub ordset-ok : (set : Name) (tops : List Top) → AllByRecursion TopOk tops → list_any (is_ordset set) tops ≡ true → N set
    ordset-ok set [] h e = absurd (cc (e))
    ordset-ok set (SetType word ordered span at ∷ tops) h e = by_tests ordered (bytes_eq word.name set) refl e (ordset-ok set tops h.1)
      where
        by_tests : (o b : Bool) → bytes_eq word.name set ≡ b → ((o && b) || list_any (is_ordset set) tops) ≡ true → (list_any (is_ordset set) tops ≡ true → N set) → N set
        by_tests true true q k rest = subst N ((bytes_eq-Decides word.name set).0 q) h.0
        by_tests true false q k rest = rest k
        by_tests false b q k rest = rest k
    ordset-ok set (Alias word of at ∷ tops) h e = ordset-ok set tops h.1 e
    ordset-ok set (Module word formals body at ∷ tops) h e = ordset-ok set tops h.1 e

  pub any-ok : (var : Name) (words : List Word) → WordsOk words → list_any (λ (word : Word). bytes_eq word.name var) words ≡ true → N var
  any-ok var [] h e = absurd (cc (e))
  any-ok var (word ∷ words) h e = by_test (bytes_eq word.name var) refl e (any-ok var words h.1)
    where
      by_test : (b : Bool) → bytes_eq word.name var ≡ b → (b || list_any (λ (word : Word). bytes_eq word.name var) words) ≡ true → (list_any (λ (word : Word). bytes_eq word.name var) words ≡ true → N var) → N var
      by_test true q k rest = subst N ((bytes_eq-Decides word.name var).0 q) h.0
      by_test false q k rest = rest k
