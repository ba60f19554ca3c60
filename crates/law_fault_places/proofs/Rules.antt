-- What the rules of the grammar spell has its places among those of the tokens.
use Rattle.std.proofs.Common.{◌≡◌, ◌≤◌, ℕ, zero, suc, Bool, true, false, cond, List, [], ◌∷◌, inl, inr, Option, Some, None, IfSome, ap, subst, arith}
use Rattle.std.specs.List.{AllByRecursion}
use Rattle.smv_core.specs.declared.token.Token.{Token}
use Rattle.smv_core.specs.declared.token.TokenKind.{TokenKind}
use Rattle.smv_core.specs.declared.token.TokenKind.TheVariants.{Ident, Number as NumberOf, Sign, Reserved}
use Rattle.smv_core.specs.declared.tree.Word.{Word}
use Rattle.smv_core.specs.declared.tree.Span.{Span}
use Rattle.smv_core.specs.declared.tree.Expr.{Expr}
use Rattle.smv_core.specs.declared.tree.Expr.TheVariants as expr
use Rattle.smv_core.specs.declared.tree.Signed.{Signed}
use Rattle.smv_core.specs.declared.tree.Part.{Part}
use Rattle.smv_core.specs.declared.tree.Path.{out-Path}
use Rattle.smv_core.specs.declared.tree.TypeExpr.{TypeExpr}
use Rattle.smv_core.specs.declared.tree.TypeExpr.TheVariants as type
use Rattle.smv_core.specs.declared.tree.Stmt.{Stmt}
use Rattle.smv_core.specs.declared.tree.Arm.{Arm}
use Rattle.smv_core.specs.declared.tree.Use.TheVariants as uses
use Rattle.smv_core.specs.declared.tree.Item.{Instance, Layer, Claim, Split, Using, Act, Declare}
use Rattle.smv_core.specs.declared.tree.Op.TheVariants as op
use Rattle.smv_core.specs.declared.tree.Kind.TheVariants as kind
use Rattle.smv_core.specs.declared.tree.Role.{Role}
use Rattle.smv_core.specs.declared.tree.Role.TheVariants as role
use Rattle.smv_core.specs.declared.tree.Top.TheVariants as top
use Rattle.smv_core.specs.declared.tree.Text.{Text}
use Rattle.smv_core.specs.Signs.{comma, ampersand, bar, arrow, slashes}
use Rattle.smv_core.specs.Signs as w
use Rattle.smv_core.specs.Notation.{Tokens, Rule, nothing, ◌>>=◌, ◌>>◌, ◌<|>◌, found, same_kind, with_place, name_of, number_of, many, optional, placed, one_of, token, name, number, same_name, positive, separated, separated_or_none, opener}
use Rattle.smv_core.specs.Grammar as g
use Rattle.smv_core.specs.Grammar.{Rules, no_rules, rules, below, chain, sum_of, named, place_of, Turns, RefPart, Dotted, Bracketed, dotted, bracketed}
use Rattle.smv_core.specs.Spelling.{Spells}
use Rattle.smv_mentions.proofs.Computing.{computing}
use Rattle.law_fault_places.specs.TreePlaces.{WordIsWithin, WordsAreWithin, TypeIsWithin, ExprIsWithin, ExprsAreWithin, PartIsWithin, PathIsWithin, StatementIsWithin, RefIsWithin, UseIsWithin, PairIsWithin, ItemIsWithin, TopIsWithin, TextIsWithin}
use Rattle.law_fault_places.proofs.TreeForms.{FieldIsWithin, within-Struct, within-Array, within-field, MemberIsWithin, TermIsWithin, within-And, within-Or, within-Implies, within-List, within-Signal, within-Sum, within-Not, within-Modulo, within-Iff, within-Compare, within-Within, within-Choose, within-All, within-Any, IsWithinOrNone, within-Each, within-term, ArmIsWithin, OtherIsWithin, within-Assign, within-Block, within-If, within-Switch, within-Default, within-For, within-Forall, within-arm, within_item-Block, within_item-Forall}

module _ (n : ℕ) where
  abbrev pub AreWithin : Tokens → Type 0
  AreWithin ts = AllByRecursion (λ (t : Token). t.at ≤ n) ts

  -- what a rule spells has this property, and the rest is still of such tokens
  abbrev pub Gives : {A : Type 0} → (A → Type 0) → Rule A → Type 0
  Gives {A} P r = (ts : Tokens) (a : A) (rest : Tokens) → AreWithin ts → r ts a rest → P a × AreWithin rest

  -- ---- how rules are put together

  nothing-gives : {A : Type 0} (P : A → Type 0) (a : A) → P a → Gives P (nothing a)
  nothing-gives P a p ts b rest all h = (subst P h.0 p, subst AreWithin h.1 all)

  bind-gives : {A B : Type 0} (P : A → Type 0) (Q : B → Type 0) (r : Rule A) (s : A → Rule B) → Gives P r → ((a : A) → P a → Gives Q (s a)) → Gives Q (r >>= s)
  bind-gives P Q r s own more ts b rest all h = let one = own ts h.0 h.1 all h.2 in more h.0 one.0 h.1 b rest one.1 h.3

  either-gives : {A : Type 0} (P : A → Type 0) (r s : Rule A) → Gives P r → Gives P s → Gives P (r <|> s)
  either-gives P r s own other ts a rest all (inl h) = own ts a rest all h
  either-gives P r s own other ts a rest all (inr h) = other ts a rest all h

  many-gives : {A : Type 0} (P : A → Type 0) (r : Rule A) → Gives P r → Gives (AllByRecursion P) (many r)
  many-gives P r own ts [] rest all h = (tt, subst AreWithin h all)
  many-gives P r own ts (a ∷ more) rest all h =
      let one = own ts a h.0 all h.1 in
      let others = many-gives P r own h.0 more rest one.1 h.2 in
      ((one.0, others.0), others.1)

  -- ---- single tokens

  with_place-at : {A : Type 0} (at : ℕ) (o : Option A) (a : A × ℕ) → with_place at o ≡ Some a → at ≡ a.1
  with_place-at at None a e = absurd (cc (e))
  with_place-at at (Some x) a e = let same : (x, at) ≡ a = cc in ap (λ p. p.1) same

  one_of-gives : {A : Type 0} (list : List (TokenKind × A)) → Gives (λ (a : A × ℕ). a.1 ≤ n) (one_of list)
  one_of-gives list [] a rest all h = absurd h
  one_of-gives list (t ∷ ts) a rest all h = (subst (λ at. at ≤ n) (with_place-at t.at (found list t.kind) a h.0) all.0, subst AreWithin h.1 all.1)

  token-gives : (k : TokenKind) → Gives (λ at. at ≤ n) (token k)
  token-gives k [] a rest all h = absurd h
  token-gives k (t ∷ ts) a rest all h = (by (same_kind t.kind k) h.0, subst AreWithin h.1 all.1)
    where
      by : (b : Bool) → cond b (Some t.at) None ≡ Some a → a ≤ n
      by true e = let same : t.at ≡ a = cc in subst (λ at. at ≤ n) same all.0
      by false e = absurd (cc (e))

  name_of-at : (at : ℕ) (k : TokenKind) (word : Word) → name_of at k ≡ Some word → at ≡ word.at
  name_of-at at (Ident bytes) word e = let same : (record { name = bytes; at = at }) ≡ word = cc in ap (λ (w : Word). w.at) same
  name_of-at at (NumberOf value) word e = absurd (cc (e))
  name_of-at at (Sign k) word e = absurd (cc (e))
  name_of-at at (Reserved k) word e = absurd (cc (e))

  name-gives : Gives (WordIsWithin n) name
  name-gives [] a rest all h = absurd h
  name-gives (t ∷ ts) a rest all h = (subst (λ at. at ≤ n) (name_of-at t.at t.kind a h.0) all.0, subst AreWithin h.1 all.1)

  number-gives : Gives (λ (k : ℕ × ℕ). k.1 ≤ n) number
  number-gives [] a rest all h = absurd h
  number-gives (t ∷ ts) a rest all h = (subst (λ at. at ≤ n) (with_place-at t.at (number_of t.kind) a h.0) all.0, subst AreWithin h.1 all.1)

  same_name-gives : (word : Word) → Gives (WordIsWithin n) (same_name word)
  same_name-gives word ts a rest all h = let one = name-gives ts h.0 h.1 all h.2 in nothing-gives (WordIsWithin n) h.0 one.0 h.1 a rest one.1 h.3.1

  positive-gives : Gives (λ (k : ℕ). Unit {0}) positive
  positive-gives ts a rest all h = let one = number-gives ts h.0 h.1 all h.2 in (tt, subst AreWithin h.3.1.1 one.1)

  -- a rule behind a token
  after : {B : Type 0} (Q : B → Type 0) (k : TokenKind) (r : Rule B) → Gives Q r → Gives Q (token k >> r)
  after Q k r own ts b rest all h = own h.1 b rest (token-gives k ts h.0 h.1 all h.2).1 h.3

  opener-gives : (floor : ℕ → ℕ) (m : ℕ) (k : TokenKind) → Gives (λ at. at ≤ n) (opener floor m k)
  opener-gives floor m k ts a rest all h =
      let one = token-gives k ts h.0 h.1 all h.2 in
      nothing-gives (λ at. at ≤ n) h.0 one.0 h.3.1 a rest (subst AreWithin h.3.2.1.1 one.1) h.3.3

  -- ---- lists

  separated-gives : {A : Type 0} (P : A → Type 0) (r : Rule A) → Gives P r → Gives (AllByRecursion P) (separated r)
  separated-gives P r own ts xs rest all h =
      let one = own ts h.0 h.1 all h.2 in
      let others = many-gives P (token comma >> r) (after P comma r own) h.1 h.3.0 h.3.1 one.1 h.3.2 in
      nothing-gives (AllByRecursion P) (h.0 ∷ h.3.0) (one.0, others.0) h.3.1 xs rest others.1 h.3.3

  or_none-gives : {A : Type 0} (P : A → Type 0) (r : Rule A) → Gives P r → Gives (AllByRecursion P) (separated_or_none r)
  or_none-gives P r own ts xs rest all (inl h) = separated-gives P r own ts xs rest all h
  or_none-gives P r own ts xs rest all (inr h) = nothing-gives (AllByRecursion P) [] tt ts xs rest all h

  -- what may be there
  abbrev OnSome : {A : Type 0} → (A → Type 0) → Option A → Type 0
  OnSome P None = Unit {0}
  OnSome P (Some a) = P a

  optional-gives : {A : Type 0} (P : A → Type 0) (r : Rule A) → Gives P r → Gives (OnSome P) (optional r)
  optional-gives P r own ts o rest all (inl h) = let one = own ts h.0 h.1 all h.2 in nothing-gives (OnSome P) (Some h.0) one.0 h.1 o rest one.1 h.3
  optional-gives P r own ts o rest all (inr h) = nothing-gives (OnSome P) None tt ts o rest all h

  placed-gives : {A : Type 0} (P : A → Type 0) (r : Rule A) → Gives P r → Gives (λ (a : A × ℕ). P a.0 × (a.1 ≤ n)) (placed r)
  placed-gives P r own [] a rest all h = absurd h
  placed-gives P r own (t ∷ ts) a rest all h = let one = own (t ∷ ts) a.0 rest all h.0 in ((one.0, (let e = h.1 in let le = all.0 in omega (arith, e, le))), one.1)

  -- one rule and then another
  then : {A B : Type 0} {P : A → Type 0} {Q : B → Type 0} {r : Rule A} {s : A → Rule B} → Gives P r → ((a : A) → P a → Gives Q (s a)) → Gives Q (r >>= s)
  then {A} {B} {P} {Q} {r} {s} own more = bind-gives P Q r s own more

  -- ---- what opens no level

  span-gives : Gives (λ (s : Span × ℕ). s.1 ≤ n) g.span
  span-gives = then number-gives (λ low h. then (token-gives w.dots) (λ _ _. then number-gives (λ high _. nothing-gives (λ (s : Span × ℕ). s.1 ≤ n) (record { low = low.0; high = high.0 }, low.1) h)))

  index-gives : Gives (TypeIsWithin n) g.index
  index-gives = either-gives (TypeIsWithin n) _ _ (then (token-gives w.word_boolean) (λ _ _. nothing-gives (TypeIsWithin n) type.Boolean tt))
      (either-gives (TypeIsWithin n) _ _ (then span-gives (λ s h. nothing-gives (TypeIsWithin n) (type.Range s.0 s.1) h))
      (then name-gives (λ x h. nothing-gives (TypeIsWithin n) (type.Named x x.at) (h, h))))

  named-path : (word : Word) (parts : List Part) → WordIsWithin n word → AllByRecursion (PartIsWithin n) parts → PathIsWithin n (named word parts)
  unfolding computing
  named-path word parts h g = (h, (h, g))

  label-gives : Gives (ExprIsWithin n) g.label
  label-gives = either-gives (ExprIsWithin n) _ _ (then number-gives (λ k h. nothing-gives (ExprIsWithin n) (expr.Number k.0 k.1) h))
      (then name-gives (λ x h. nothing-gives (ExprIsWithin n) (expr.Signal (named x [])) (within-Signal n (named x []) (named-path x [] h tt))))

  abbrev LayerIsWithin : Option Word × Bool → Type 0
  LayerIsWithin l = OnSome (WordIsWithin n) l.0

  layer_name-gives : Gives LayerIsWithin g.layer_name
  layer_name-gives = then name-gives (λ l h. nothing-gives LayerIsWithin (Some l, false) h)

  free-gives : Gives LayerIsWithin g.free
  free-gives = then (token-gives w.word_free) (λ _ _. nothing-gives LayerIsWithin (None, true) tt)

  extent-gives : Gives (λ (s : Option Span × ℕ). s.1 ≤ n) g.extent
  extent-gives = either-gives (λ (s : Option Span × ℕ). s.1 ≤ n) _ _ (then (token-gives w.word_undefined) (λ at h. nothing-gives (λ (s : Option Span × ℕ). s.1 ≤ n) (None, at) h))
      (then span-gives (λ s h. nothing-gives (λ (s : Option Span × ℕ). s.1 ≤ n) (Some s.0, s.1) h))

  chain-written : (make : List Expr → Expr) → ((es : List Expr) → ExprsAreWithin n es → ExprIsWithin n (make es)) → (x : Expr) (more : List Expr) → ExprIsWithin n x → ExprsAreWithin n more → ExprIsWithin n (chain make x more)
  chain-written make m x [] h g = h
  chain-written make m x (y ∷ more) h g = m (x ∷ y ∷ more) (h, g)

  sum-written : (x : Expr) (more : List Signed) → ExprIsWithin n x → AllByRecursion (TermIsWithin n) more → ExprIsWithin n (sum_of x more)
  sum-written x [] h g = h
  sum-written x (y ∷ more) h g = within-Sum n x (y ∷ more) h g

  place-within : (words : List Word) → WordsAreWithin n words → place_of words ≤ n
  place-within [] h = omega arith
  place-within (x ∷ more) h = h.0

  -- ---- the levels

  -- what the rules of a level spell has its places within the number
  pub record AreGood (r : Rules) : Type 0 where
    pub expr_good : Gives (ExprIsWithin n) r.expr
    pub negation_good : Gives (ExprIsWithin n) r.negation
    pub member_good : Gives (MemberIsWithin n) r.member
    pub path_good : Gives (PathIsWithin n) r.path
    pub type_good : Gives (TypeIsWithin n) r.type
    pub field_good : Gives (FieldIsWithin n) r.field
    pub condition_good : Gives (ExprIsWithin n) r.condition
    pub binder_good : Gives (λ (b : Word × TypeExpr). WordIsWithin n b.0 × TypeIsWithin n b.1) r.binder
    pub stmt_good : Gives (StatementIsWithin n) r.stmt
    pub arms_good : Gives (λ (a : List Arm × Option Stmt). AllByRecursion (ArmIsWithin n) a.0 × OtherIsWithin n a.1) r.arms
    pub turns_good : Gives (λ (t : Turns). WordIsWithin n t.var) r.turns
    pub ref_good : Gives (RefIsWithin n) r.ref
    pub item_good : Gives (ItemIsWithin n) r.item
    pub body_good : Gives (ItemIsWithin n) r.body

  module _ (floor : ℕ → ℕ) (m : ℕ) (inner : Rules) (good : AreGood inner) where
    opening-gives : (k : TokenKind) → Gives (λ at. at ≤ n) (g.opening floor m inner k)
    opening-gives k = opener-gives floor m k

    -- ---- types

    enumeration-gives : Gives (TypeIsWithin n) (g.enumeration floor m inner)
    enumeration-gives = then (opening-gives w.open_brace) (λ at h. then (separated-gives (WordIsWithin n) name name-gives) (λ names ns. then (token-gives w.close_brace) (λ _ _. nothing-gives (TypeIsWithin n) (type.Enum names at) (ns, h))))

    array-gives : Gives (TypeIsWithin n) (g.array floor m inner)
    array-gives = then (token-gives w.word_array) (λ _ _. then index-gives (λ over o. then (opening-gives w.word_of) (λ _ _. then good.type_good (λ of h. nothing-gives (TypeIsWithin n) (type.Array over of) (within-Array n over of o h)))))

    structure-gives : Gives (TypeIsWithin n) (g.structure floor m inner)
    structure-gives = then (token-gives w.word_struct) (λ _ _. then (opening-gives w.open_brace) (λ _ _. then (many-gives (FieldIsWithin n) inner.field good.field_good) (λ fields h. then (token-gives w.close_brace) (λ _ _. nothing-gives (TypeIsWithin n) (type.Struct fields) (within-Struct n fields h)))))

    type-gives : Gives (TypeIsWithin n) (g.type_rule floor m inner)
    type-gives = either-gives (TypeIsWithin n) _ _ index-gives (either-gives (TypeIsWithin n) _ _ enumeration-gives (either-gives (TypeIsWithin n) _ _ array-gives structure-gives))

    field-gives : Gives (FieldIsWithin n) (g.field_rule floor m inner)
    field-gives = then (separated-gives (WordIsWithin n) name name-gives) (λ names ns. then (token-gives w.colon) (λ _ _. then type-gives (λ of h. then (token-gives w.semicolon) (λ _ _. nothing-gives (FieldIsWithin n) _ (within-field n names of (place_of names) ns h (place-within names ns))))))

    -- ---- paths

    part-gives : Gives (PartIsWithin n) (g.part_rule floor m inner)
    part-gives = either-gives (PartIsWithin n) _ _ (then (token-gives w.dot) (λ _ _. then name-gives (λ x h. nothing-gives (PartIsWithin n) _ h)))
        (then (opening-gives w.open_bracket) (λ _ _. then good.expr_good (λ x h. then (token-gives w.close_bracket) (λ _ _. nothing-gives (PartIsWithin n) _ h))))

    path-gives : Gives (PathIsWithin n) (g.path_rule floor m inner)
    path-gives = then name-gives (λ x h. then (many-gives (PartIsWithin n) (g.part_rule floor m inner) part-gives) (λ more k. nothing-gives (PathIsWithin n) (named x more) (named-path x more h k)))

    -- ---- expressions

    condition-gives : Gives (ExprIsWithin n) (g.condition_rule floor m inner)
    condition-gives = then (opening-gives w.open_paren) (λ _ _. then good.expr_good (λ x h. then (token-gives w.close_paren) (λ _ _. nothing-gives (ExprIsWithin n) x h)))

    listed-gives : Gives (ExprIsWithin n) (g.listed floor m inner)
    listed-gives = then (opening-gives w.open_brace) (λ at a. then (separated-gives (MemberIsWithin n) inner.member good.member_good) (λ members h. then (token-gives w.close_brace) (λ _ _. nothing-gives (ExprIsWithin n) (expr.List members at) (within-List n members at h a))))

    held-or-none : (o : Option Expr) → OnSome (ExprIsWithin n) o → IsWithinOrNone n o
    held-or-none None h = tt
    held-or-none (Some e) h = h

    comprehension-gives : Gives (ExprIsWithin n) (g.comprehension floor m inner)
    comprehension-gives = then (opening-gives w.open_brace) (λ at a. then name-gives (λ x v. then (token-gives w.colon) (λ _ _. then (same_name-gives x) (λ _ _. then (token-gives w.word_in) (λ _ _. then index-gives (λ over o.
        then (optional-gives (ExprIsWithin n) (token comma >> inner.expr) (after (ExprIsWithin n) comma inner.expr good.expr_good)) (λ cond h. then (token-gives w.close_brace) (λ _ _.
        nothing-gives (ExprIsWithin n) (expr.Each x over cond at) (within-Each n x over cond at a v o (held-or-none cond h))))))))))

    set-gives : Gives (ExprIsWithin n) (g.set floor m inner)
    set-gives = either-gives (ExprIsWithin n) _ _ listed-gives comprehension-gives

    reduction-make : (k : TokenKind) (make : Expr → Word → TypeExpr → ℕ → Expr) → found ((ampersand, expr.All) ∷ (bar, expr.Any) ∷ []) k ≡ Some make →
        (body : Expr) (var : Word) (over : TypeExpr) (at : ℕ) → at ≤ n → WordIsWithin n var → TypeIsWithin n over → ExprIsWithin n body → ExprIsWithin n (make body var over at)
    reduction-make k make e body var over at a v o h = by_tests (same_kind k ampersand) (same_kind k bar) e
      where
        by_tests : (b c : Bool) → cond b (Some expr.All) (cond c (Some expr.Any) None) ≡ Some make → ExprIsWithin n (make body var over at)
        by_tests true c e = let same : expr.All ≡ make = cc in subst (λ (m : Expr → Word → TypeExpr → ℕ → Expr). ExprIsWithin n (m body var over at)) same (within-All n body var over at a v o h)
        by_tests false true e = let same : expr.Any ≡ make = cc in subst (λ (m : Expr → Word → TypeExpr → ℕ → Expr). ExprIsWithin n (m body var over at)) same (within-Any n body var over at a v o h)
        by_tests false false e = absurd (cc (e))

    -- a sign that makes an expression of its parts
    abbrev Makes : (Expr → Word → TypeExpr → ℕ → Expr) × ℕ → Type 0
    Makes make = (make.1 ≤ n) × ((body : Expr) (var : Word) (over : TypeExpr) → WordIsWithin n var → TypeIsWithin n over → ExprIsWithin n body → ExprIsWithin n (make.0 body var over make.1))

    some-same : {A : Type 0} (a b : A) → Some a ≡ Some b → a ≡ b
    some-same a b e = cc

    with_place-first : {A : Type 0} (at : ℕ) (o : Option A) (a : A × ℕ) → with_place at o ≡ Some a → o ≡ Some a.0
    with_place-first at None a e = absurd (cc (e))
    with_place-first {A} at (Some x) a e = ap (λ (p : A × ℕ). Some p.0) (some-same (x, at) a e)

    makes-gives : Gives Makes (one_of ((ampersand, expr.All) ∷ (bar, expr.Any) ∷ []))
    makes-gives [] a rest all h = absurd h
    makes-gives (t ∷ ts) a rest all h =
        let le : a.1 ≤ n = (one_of-gives ((ampersand, expr.All) ∷ (bar, expr.Any) ∷ []) (t ∷ ts) a rest all h).0 in
        ((le, λ body var over v o e. reduction-make t.kind a.0 (with_place-first t.at (found ((ampersand, expr.All) ∷ (bar, expr.Any) ∷ []) t.kind) a h.0) body var over a.1 le v o e), subst AreWithin h.1 all.1)

    reduction-gives : Gives (ExprIsWithin n) (g.reduction floor m inner)
    reduction-gives = then makes-gives (λ make ok. then (opening-gives w.open_bracket) (λ _ _. then good.expr_good (λ x h. then (token-gives w.colon) (λ _ _. then name-gives (λ v vh. then (token-gives w.word_in) (λ _ _. then index-gives (λ over o.
        then (token-gives w.close_bracket) (λ _ _. nothing-gives (ExprIsWithin n) (make.0 x v over make.1) (ok.1 x v over vh o h)))))))))

    prim-gives : Gives (ExprIsWithin n) (g.prim floor m inner)
    prim-gives = either-gives (ExprIsWithin n) _ _ (then number-gives (λ k h. nothing-gives (ExprIsWithin n) (expr.Number k.0 k.1) h))
        (either-gives (ExprIsWithin n) _ _ (then path-gives (λ p h. nothing-gives (ExprIsWithin n) (expr.Signal p) (within-Signal n p h)))
        (either-gives (ExprIsWithin n) _ _ condition-gives (either-gives (ExprIsWithin n) _ _ set-gives reduction-gives)))

    signed-gives : Gives (TermIsWithin n) (g.signed floor m inner)
    signed-gives = then (one_of-gives ((w.plus, false) ∷ (w.minus, true) ∷ [])) (λ sign _. then prim-gives (λ x h. nothing-gives (TermIsWithin n) _ (within-term n sign.0 x h)))

    sum-gives : Gives (ExprIsWithin n) (g.sum floor m inner)
    sum-gives = then prim-gives (λ x h. then (many-gives (TermIsWithin n) (g.signed floor m inner) signed-gives) (λ more k. nothing-gives (ExprIsWithin n) (sum_of x more) (sum-written x more h k)))

    modulo-gives : Gives (ExprIsWithin n) (g.modulo floor m inner)
    modulo-gives = then sum-gives (λ x h. either-gives (ExprIsWithin n) _ _ (then (token-gives w.word_mod) (λ _ _. then number-gives (λ k a. nothing-gives (ExprIsWithin n) (expr.Modulo x k.0 k.1) (within-Modulo n x k.0 k.1 a h)))) (nothing-gives (ExprIsWithin n) x h))

    comparison-gives : Gives (ExprIsWithin n) (g.comparison floor m inner)
    comparison-gives = then modulo-gives (λ x h. either-gives (ExprIsWithin n) _ _ (then (one_of-gives ((w.equal, op.Equal) ∷ (w.differ, op.Differ) ∷ (w.less, op.Less) ∷ (w.at_most, op.AtMost) ∷ (w.greater, op.Greater) ∷ (w.at_least, op.AtLeast) ∷ [])) (λ o _. then modulo-gives (λ y k. nothing-gives (ExprIsWithin n) (expr.Compare o.0 x y) (within-Compare n o.0 x y h k))))
        (either-gives (ExprIsWithin n) _ _ (then (token-gives w.word_in) (λ _ _. then set-gives (λ s k. nothing-gives (ExprIsWithin n) (expr.Within x s) (within-Within n x s h k)))) (nothing-gives (ExprIsWithin n) x h)))

    negation-gives : Gives (ExprIsWithin n) (g.negation_rule floor m inner)
    negation-gives = either-gives (ExprIsWithin n) _ _ (then (opening-gives w.tilde) (λ at a. then good.negation_good (λ x h. nothing-gives (ExprIsWithin n) (expr.Not x at) (within-Not n x at a h)))) comparison-gives

    chained-gives : (k : TokenKind) (make : List Expr → Expr) → ((es : List Expr) → ExprsAreWithin n es → ExprIsWithin n (make es)) → (r : Rule Expr) → Gives (ExprIsWithin n) r → Gives (ExprIsWithin n) (g.chained floor m inner k make r)
    chained-gives k make ok r own = then own (λ x h. then (many-gives (ExprIsWithin n) (token k >> r) (after (ExprIsWithin n) k r own)) (λ more l. nothing-gives (ExprIsWithin n) (chain make x more) (chain-written make ok x more h l)))

    conjunction-gives : Gives (ExprIsWithin n) (g.conjunction floor m inner)
    conjunction-gives = chained-gives ampersand expr.And (within-And n) (g.negation_rule floor m inner) negation-gives

    disjunction-gives : Gives (ExprIsWithin n) (g.disjunction floor m inner)
    disjunction-gives = chained-gives bar expr.Or (within-Or n) (g.conjunction floor m inner) conjunction-gives

    implication-gives : Gives (ExprIsWithin n) (g.implication floor m inner)
    implication-gives = chained-gives arrow expr.Implies (within-Implies n) (g.disjunction floor m inner) disjunction-gives

    equivalence-gives : Gives (ExprIsWithin n) (g.equivalence floor m inner)
    equivalence-gives = then implication-gives (λ x h. either-gives (ExprIsWithin n) _ _ (then (token-gives w.double_arrow) (λ _ _. then implication-gives (λ y k. nothing-gives (ExprIsWithin n) (expr.Iff x y) (within-Iff n x y h k)))) (nothing-gives (ExprIsWithin n) x h))

    expr-gives : Gives (ExprIsWithin n) (g.expr_rule floor m inner)
    expr-gives = then equivalence-gives (λ c h. either-gives (ExprIsWithin n) _ _ (then (opening-gives w.question) (λ _ _. then good.expr_good (λ x k. then (token-gives w.colon) (λ _ _. then good.expr_good (λ y l.
        nothing-gives (ExprIsWithin n) (expr.Choose c x y) (within-Choose n c x y h k l)))))) (nothing-gives (ExprIsWithin n) c h))

    member-gives : Gives (MemberIsWithin n) (g.member_rule floor m inner)
    member-gives = either-gives (MemberIsWithin n) _ _ (then expr-gives (λ x h. nothing-gives (MemberIsWithin n) _ h)) (then span-gives (λ s h. nothing-gives (MemberIsWithin n) _ h))

    -- ---- statements

    binder-gives : Gives (λ (b : Word × TypeExpr). WordIsWithin n b.0 × TypeIsWithin n b.1) (g.binder_rule floor m inner)
    binder-gives = then (opening-gives w.open_paren) (λ _ _. then name-gives (λ x v. then (token-gives w.word_in) (λ _ _. then index-gives (λ over o. then (token-gives w.close_paren) (λ _ _. nothing-gives (λ (b : Word × TypeExpr). WordIsWithin n b.0 × TypeIsWithin n b.1) (x, over) (v, o))))))

    value-gives : Gives (ExprIsWithin n) (g.value floor m inner)
    value-gives = then (token-gives w.becomes) (λ _ _. then expr-gives (λ x h. then (token-gives w.semicolon) (λ _ _. nothing-gives (ExprIsWithin n) x h)))

    assignment-gives : Gives (StatementIsWithin n) (g.assignment floor m inner)
    assignment-gives = then path-gives (λ p h. then value-gives (λ x k. nothing-gives (StatementIsWithin n) _ (within-Assign n kind.Comb p x (out-Path p).at h.0 h k)))

    timed-gives : Gives (StatementIsWithin n) (g.timed floor m inner)
    timed-gives = then (one_of-gives ((w.word_init, kind.Init) ∷ (w.word_next, kind.Next) ∷ [])) (λ k a. then (opening-gives w.open_paren) (λ _ _. then good.path_good (λ p h. then (token-gives w.close_paren) (λ _ _. then value-gives (λ x v. nothing-gives (StatementIsWithin n) _ (within-Assign n k.0 p x k.1 a h v))))))

    otherwise-gives : (first : Stmt) → Gives (StatementIsWithin n) (g.otherwise floor m inner first)
    otherwise-gives first ts x rest all h = after (StatementIsWithin n) w.word_else inner.stmt good.stmt_good ts x rest all h.1

    other-or-none : (o : Option Stmt) → OnSome (StatementIsWithin n) o → OtherIsWithin n o
    other-or-none None h = tt
    other-or-none (Some act) h = h

    if-gives : Gives (StatementIsWithin n) (g.if_rule floor m inner)
    if-gives = then (opening-gives w.word_if) (λ at a. then good.condition_good (λ c h. then good.stmt_good (λ x k. then (optional-gives (StatementIsWithin n) (g.otherwise floor m inner x) (otherwise-gives x)) (λ y l.
        nothing-gives (StatementIsWithin n) _ (within-If n c x y at a h k (other-or-none y l))))))

    arm-gives : Gives (ArmIsWithin n) (g.arm floor m inner)
    arm-gives = then (separated-gives (ExprIsWithin n) g.label label-gives) (λ labels ls. then (token-gives w.colon) (λ _ _. then good.stmt_good (λ body h. nothing-gives (ArmIsWithin n) _ (within-arm n labels body ls h))))

    abbrev ArmsAndOther : List Arm × Option Stmt → Type 0
    ArmsAndOther a = AllByRecursion (ArmIsWithin n) a.0 × OtherIsWithin n a.1

    arms-gives : Gives ArmsAndOther (g.arms_rule floor m inner)
    arms-gives = then (opening-gives w.open_brace) (λ _ _. then (many-gives (ArmIsWithin n) (g.arm floor m inner) arm-gives) (λ arms hs.
        then (optional-gives (StatementIsWithin n) (token w.word_default >> token w.colon >> inner.stmt) (after (StatementIsWithin n) w.word_default (token w.colon >> inner.stmt) (after (StatementIsWithin n) w.colon inner.stmt good.stmt_good))) (λ other o.
        then (token-gives w.close_brace) (λ _ _. nothing-gives ArmsAndOther (arms, other) (hs, other-or-none other o)))))

    switch-gives : Gives (StatementIsWithin n) (g.switch floor m inner)
    switch-gives = then (opening-gives w.word_switch) (λ at a. then good.condition_good (λ x h. then good.arms_good (λ arms k. nothing-gives (StatementIsWithin n) _ (within-Switch n x arms.0 arms.1 at a h k.0 k.1))))

    default-gives : Gives (StatementIsWithin n) (g.default floor m inner)
    default-gives = then (opening-gives w.word_default) (λ at a. then good.stmt_good (λ x h. then (token-gives w.word_in) (λ _ _. then good.stmt_good (λ y k. nothing-gives (StatementIsWithin n) _ (within-Default n x y at a h k)))))

    turns-gives : Gives (λ (t : Turns). WordIsWithin n t.var) (g.turns_rule floor m inner)
    turns-gives = then (opening-gives w.open_paren) (λ _ _. then name-gives (λ x v. then (token-gives w.equal) (λ _ _. then number-gives (λ from _. then (token-gives w.semicolon) (λ _ _. then (same_name-gives x) (λ _ _. then (one_of-gives ((w.less, false) ∷ (w.at_most, true) ∷ [])) (λ closed _. then number-gives (λ to _.
        then (token-gives w.semicolon) (λ _ _. then (same_name-gives x) (λ _ _. then (token-gives w.equal) (λ _ _. then (same_name-gives x) (λ _ _. then (token-gives w.plus) (λ _ _. then positive-gives (λ step _. then (token-gives w.close_paren) (λ _ _.
        nothing-gives (λ (t : Turns). WordIsWithin n t.var) _ v)))))))))))))))

    for-gives : Gives (StatementIsWithin n) (g.for floor m inner)
    for-gives = then (opening-gives w.word_for) (λ at a. then good.turns_good (λ t v. then good.stmt_good (λ body h. nothing-gives (StatementIsWithin n) _ (within-For n t.var t.from t.to t.closed t.step body at a v h))))

    simple-gives : Gives (StatementIsWithin n) (g.simple floor m inner)
    simple-gives = either-gives (StatementIsWithin n) _ _ assignment-gives (either-gives (StatementIsWithin n) _ _ timed-gives (either-gives (StatementIsWithin n) _ _ if-gives
        (either-gives (StatementIsWithin n) _ _ switch-gives (either-gives (StatementIsWithin n) _ _ default-gives for-gives))))

    stmt-gives : Gives (StatementIsWithin n) (g.stmt_rule floor m inner)
    stmt-gives = either-gives (StatementIsWithin n) _ _
        (then (opening-gives w.word_forall) (λ at a. then good.binder_good (λ b k. then good.stmt_good (λ body h. nothing-gives (StatementIsWithin n) _ (within-Forall n b.0 b.1 body at a k.0 k.1 h)))))
        (either-gives (StatementIsWithin n) _ _
        (then (opening-gives w.open_brace) (λ _ _. then (many-gives (StatementIsWithin n) inner.stmt good.stmt_good) (λ parts h. then (token-gives w.close_brace) (λ _ _. nothing-gives (StatementIsWithin n) _ (within-Block n parts h)))))
        simple-gives)

    -- ---- references

    in_brackets-gives : Gives (WordIsWithin n) (g.in_brackets floor m inner)
    in_brackets-gives = then (opening-gives w.open_bracket) (λ _ _. then name-gives (λ x h. then (token-gives w.close_bracket) (λ _ _. nothing-gives (WordIsWithin n) x h)))

    abbrev RefPartIsWithin : RefPart → Type 0
    RefPartIsWithin (Dotted x) = WordIsWithin n x
    RefPartIsWithin (Bracketed x) = WordIsWithin n x

    ref_part-gives : Gives RefPartIsWithin (g.ref_part floor m inner)
    ref_part-gives = either-gives RefPartIsWithin _ _ (then (token-gives w.dot) (λ _ _. then name-gives (λ x h. nothing-gives RefPartIsWithin (Dotted x) h)))
        (then in_brackets-gives (λ x h. nothing-gives RefPartIsWithin (Bracketed x) h))

    dotted-within : (parts : List RefPart) → AllByRecursion RefPartIsWithin parts → WordsAreWithin n (dotted parts)
    dotted-within [] h = tt
    dotted-within (Dotted x ∷ more) h = (h.0, dotted-within more h.1)
    dotted-within (Bracketed x ∷ more) h = dotted-within more h.1

    bracketed-within : (parts : List RefPart) → AllByRecursion RefPartIsWithin parts → WordsAreWithin n (bracketed parts)
    bracketed-within [] h = tt
    bracketed-within (Dotted x ∷ more) h = bracketed-within more h.1
    bracketed-within (Bracketed x ∷ more) h = (h.0, bracketed-within more h.1)

    some-layer : (o : Option Word) → OnSome (WordIsWithin n) o → IfSome o (WordIsWithin n)
    some-layer None h = tt
    some-layer (Some word) h = h

    ref_by-gives : (layer : Rule (Option Word × Bool)) → Gives LayerIsWithin layer → Gives (RefIsWithin n) (g.ref_by floor m inner layer)
    ref_by-gives layer own = then name-gives (λ x h. then (many-gives RefPartIsWithin (g.ref_part floor m inner) ref_part-gives) (λ parts ps. then own (λ l k.
        nothing-gives (RefIsWithin n) (record { path = x ∷ dotted parts; names = bracketed parts; layer = l.0; free = l.1; at = x.at }) ((h, dotted-within parts ps), bracketed-within parts ps, some-layer l.0 k, h))))

    no_layer-gives : Gives LayerIsWithin (nothing (None, false))
    no_layer-gives = nothing-gives LayerIsWithin (None, false) tt

    ref-gives : Gives (RefIsWithin n) (g.ref floor m inner)
    ref-gives = ref_by-gives _ (either-gives LayerIsWithin _ _ (after LayerIsWithin slashes g.layer_name layer_name-gives) no_layer-gives)

    layer_or_free-gives : Gives LayerIsWithin (g.layer_name <|> g.free)
    layer_or_free-gives = either-gives LayerIsWithin g.layer_name g.free layer_name-gives free-gives

    ref_rule-gives : Gives (RefIsWithin n) (g.ref_rule floor m inner)
    ref_rule-gives = ref_by-gives _ (either-gives LayerIsWithin _ _ (after LayerIsWithin slashes (g.layer_name <|> g.free) layer_or_free-gives) no_layer-gives)

    use-gives : Gives (UseIsWithin n) (g.use_rule floor m inner)
    use-gives = either-gives (UseIsWithin n) _ _ (then ref_rule-gives (λ r h. nothing-gives (UseIsWithin n) (uses.Plain r) h))
        (either-gives (UseIsWithin n) _ _ (then (opening-gives w.open_paren) (λ _ _. then good.ref_good (λ r h. then (token-gives w.close_paren) (λ _ _. nothing-gives (UseIsWithin n) (uses.Early r) h))))
        (then name-gives (λ x h. then (token-gives w.arrow) (λ _ _. then (opening-gives w.open_brace) (λ _ _. then (or_none-gives (WordIsWithin n) name name-gives) (λ names ns. then (token-gives w.close_brace) (λ _ _.
        nothing-gives (UseIsWithin n) (uses.Keep x names x.at) (h, ns, h))))))))

    -- ---- items

    claim-gives : Gives (ItemIsWithin n) (g.claim floor m inner)
    claim-gives = then name-gives (λ x h. then (many-gives (WordIsWithin n) (g.in_brackets floor m inner) in_brackets-gives) (λ vars vs. then (token-gives w.colon) (λ _ _. then (token-gives w.word_assert) (λ _ _. then (token-gives w.word_G) (λ _ _.
        then expr-gives (λ body k. then (token-gives w.semicolon) (λ _ _. nothing-gives (ItemIsWithin n) (Claim x vars body x.at) (h, vs, k, h))))))))

    pair-gives : Gives (PairIsWithin n) (g.pair floor m inner)
    pair-gives = then (placed-gives (ExprIsWithin n) (g.sum floor m inner) sum-gives) (λ x h. then (token-gives w.equal) (λ _ _. then name-gives (λ y k. nothing-gives (PairIsWithin n) (record { left = x.0; right = y; at = x.1 }) (h.0, k, h.1))))

    split-gives : Gives (ItemIsWithin n) (g.split floor m inner)
    split-gives = then (token-gives w.word_subcase) (λ at a. then name-gives (λ x h. then (many-gives (WordIsWithin n) (g.in_brackets floor m inner) in_brackets-gives) (λ vars vs. then (token-gives w.word_of) (λ _ _. then ref-gives (λ of r.
        then (token-gives w.word_for) (λ _ _. then (separated-gives (PairIsWithin n) (g.pair floor m inner) pair-gives) (λ pairs ps. then (token-gives w.semicolon) (λ _ _. nothing-gives (ItemIsWithin n) (Split x vars of pairs at) (h, vs, r, ps, a)))))))))

    using-gives : Gives (ItemIsWithin n) (g.using floor m inner)
    using-gives = then (token-gives w.word_using) (λ at a. then (separated-gives (UseIsWithin n) (g.use_rule floor m inner) use-gives) (λ us h. then (token-gives w.word_prove) (λ _ _. then (separated-gives (RefIsWithin n) (g.ref floor m inner) ref-gives) (λ proves k.
        then (token-gives w.semicolon) (λ _ _. nothing-gives (ItemIsWithin n) (Using us proves at) (h, k, a))))))

    item-gives : Gives (ItemIsWithin n) (g.item_rule floor m inner)
    item-gives = either-gives (ItemIsWithin n) _ _
        (then (opening-gives w.word_forall) (λ at a. then good.binder_good (λ b k. then good.item_good (λ body h. nothing-gives (ItemIsWithin n) _ (within_item-Forall n b.0 b.1 body at a k.0 k.1 h)))))
        (either-gives (ItemIsWithin n) _ _
        (then (opening-gives w.open_brace) (λ _ _. then (many-gives (ItemIsWithin n) inner.item good.item_good) (λ items h. then (token-gives w.close_brace) (λ _ _. nothing-gives (ItemIsWithin n) _ (within_item-Block n items h)))))
        (either-gives (ItemIsWithin n) _ _ claim-gives (either-gives (ItemIsWithin n) _ _ split-gives (either-gives (ItemIsWithin n) _ _ using-gives (then simple-gives (λ x h. nothing-gives (ItemIsWithin n) (Act x) h))))))

    declared-gives : (how : Role) (at : List Word → ℕ) → ((names : List Word) → WordsAreWithin n names → at names ≤ n) → Gives (ItemIsWithin n) (g.declared floor m inner how at)
    declared-gives how at le = then (separated-gives (WordIsWithin n) name name-gives) (λ names ns. then (token-gives w.colon) (λ _ _. then type-gives (λ of h. then (token-gives w.semicolon) (λ _ _.
        nothing-gives (ItemIsWithin n) (Declare how names of (at names)) (ns, h, le names ns)))))

    declaration-gives : Gives (ItemIsWithin n) (g.declaration floor m inner)
    declaration-gives = either-gives (ItemIsWithin n) _ _ (then (one_of-gives ((w.word_abstract, role.Abstract) ∷ (w.word_input, role.Input) ∷ (w.word_output, role.Output) ∷ [])) (λ r a. declared-gives r.0 (λ names. r.1) (λ names ns. a))) (declared-gives role.Plain place_of place-within)

    instance-gives : Gives (ItemIsWithin n) (g.instance floor m inner)
    instance-gives = then (separated-gives (WordIsWithin n) name name-gives) (λ names ns. then (token-gives w.colon) (λ _ _. then name-gives (λ word h. then (opening-gives w.open_paren) (λ _ _. then (or_none-gives (ExprIsWithin n) inner.expr good.expr_good) (λ args k.
        then (token-gives w.close_paren) (λ _ _. then (token-gives w.semicolon) (λ _ _. nothing-gives (ItemIsWithin n) (Instance names word args (place_of names)) (ns, h, k, place-within names ns))))))))

    layer-gives : Gives (ItemIsWithin n) (g.layer floor m inner)
    layer-gives = then (token-gives w.word_layer) (λ at a. then name-gives (λ x h. then (token-gives w.colon) (λ _ _. then (opening-gives w.open_brace) (λ _ _. then (many-gives (StatementIsWithin n) inner.stmt good.stmt_good) (λ body k.
        then (token-gives w.close_brace) (λ _ _. nothing-gives (ItemIsWithin n) (Layer x body at) (h, k, a)))))))

    body-gives : Gives (ItemIsWithin n) (g.body_rule floor m inner)
    body-gives = either-gives (ItemIsWithin n) _ _ declaration-gives (either-gives (ItemIsWithin n) _ _ instance-gives (either-gives (ItemIsWithin n) _ _ layer-gives item-gives))

    -- ---- the text

    top-gives : Gives (TopIsWithin n) (g.top_rule floor m inner)
    top-gives = either-gives (TopIsWithin n) _ _
        (then (token-gives w.word_scalarset) (λ _ _. then name-gives (λ x h. then extent-gives (λ s a. then (token-gives w.semicolon) (λ _ _. nothing-gives (TopIsWithin n) (top.SetType x false s.0 s.1) (h, a))))))
        (either-gives (TopIsWithin n) _ _
        (then (token-gives w.word_ordset) (λ _ _. then name-gives (λ x h. then (token-gives w.word_undefined) (λ at a. then (token-gives w.semicolon) (λ _ _. nothing-gives (TopIsWithin n) (top.SetType x true None at) (h, a))))))
        (either-gives (TopIsWithin n) _ _
        (then (token-gives w.word_typedef) (λ at a. then name-gives (λ x h. then type-gives (λ of k. then (token-gives w.semicolon) (λ _ _. nothing-gives (TopIsWithin n) (top.Alias x of at) (h, k, a))))))
        (then (token-gives w.word_module) (λ at a. then name-gives (λ x h. then (opening-gives w.open_paren) (λ _ _. then (or_none-gives (WordIsWithin n) name name-gives) (λ formals fs. then (token-gives w.close_paren) (λ _ _. then (opening-gives w.open_brace) (λ _ _.
        then (many-gives (ItemIsWithin n) inner.body good.body_good) (λ items k. then (token-gives w.close_brace) (λ _ _. nothing-gives (TopIsWithin n) (top.Module x formals items at) (h, fs, k, a))))))))))))

    rules-good : AreGood (rules floor m inner)
    rules-good = record {
      expr_good = expr-gives;
      negation_good = negation-gives;
      member_good = member-gives;
      path_good = path-gives;
      type_good = type-gives;
      field_good = field-gives;
      condition_good = condition-gives;
      binder_good = binder-gives;
      stmt_good = stmt-gives;
      arms_good = arms-gives;
      turns_good = turns-gives;
      ref_good = ref_rule-gives;
      item_good = item-gives;
      body_good = body-gives;
    }

  none-good : AreGood no_rules
  none-good = record {
    expr_good = λ ts x rest all a. absurd a;
    negation_good = λ ts x rest all a. absurd a;
    member_good = λ ts x rest all a. absurd a;
    path_good = λ ts x rest all a. absurd a;
    type_good = λ ts x rest all a. absurd a;
    field_good = λ ts x rest all a. absurd a;
    condition_good = λ ts x rest all a. absurd a;
    binder_good = λ ts x rest all a. absurd a;
    stmt_good = λ ts x rest all a. absurd a;
    arms_good = λ ts x rest all a. absurd a;
    turns_good = λ ts x rest all a. absurd a;
    ref_good = λ ts x rest all a. absurd a;
    item_good = λ ts x rest all a. absurd a;
    body_good = λ ts x rest all a. absurd a;
  }

  below-good : (floor : ℕ → ℕ) (m : ℕ) → AreGood (below floor m)
  below-good floor zero = none-good
  below-good floor (suc m) = rules-good floor m (below floor m) (below-good floor m)

  -- a tree that tokens spell has its places among theirs
  pub spelled-within : (levels : ℕ) (ts : Tokens) (tree : Text) → AreWithin ts → Spells levels ts tree → TextIsWithin n tree
  unfolding Spells
  spelled-within levels ts tree all h = (many-gives (TopIsWithin n) (g.top_rule (λ at. 0) levels (below (λ at. 0) levels)) (top-gives (λ at. 0) levels (below (λ at. 0) levels) (below-good (λ at. 0) levels)) ts tree.tops [] all h).0
