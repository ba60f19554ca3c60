-- What the rules of the grammar spell of tokens whose names are words is a tree whose names are words.
use Rattle.std.proofs.Common.{◌≡◌, ℕ, zero, suc, List, [], ◌∷◌, ◌++◌, inl, inr, Some, None, true, false, subst}
use Rattle.std.specs.List.{AllByRecursion}
use Rattle.smv_core.specs.declared.token.TokenKind.{TokenKind}
use Rattle.smv_core.specs.declared.token.TokenKind.TheVariants.{Ident, Number, Sign, Reserved}
use Rattle.smv_core.specs.declared.tree.Word.{Word}
use Rattle.smv_core.specs.declared.tree.TypeExpr.TheVariants as type
use Rattle.smv_core.specs.declared.tree.Item.TheVariants as item
use Rattle.smv_core.specs.declared.tree.Role.{Role}
use Rattle.smv_core.specs.declared.tree.Role.TheVariants as role
use Rattle.smv_core.specs.declared.tree.Top.TheVariants as top
use Rattle.smv_core.specs.declared.tree.Text.{Text}
use Rattle.smv_core.specs.Signs as w
use Rattle.smv_core.specs.Notation.{Tokens, Rule, name_of, nothing, ◌>>=◌, ◌>>◌, ◌<|>◌, many, name, separated}
use Rattle.smv_core.specs.Grammar as g
use Rattle.smv_core.specs.Grammar.{Rules, no_rules, rules, below}
use Rattle.smv_core.specs.Spelling.{Spells}
use Rattle.law_sound_texts.proofs.Consumed.{IsBehind, ReadsFront, ReadFronts, front-token, front-name, front-span, front-index, front-many, front-separated, front-or_none, front-one_of, front-extent, opening, front-expr, front-simple, front-brackets, front-split, front-using, below-front}
use Rattle.law_unit_names.proofs.Words.{is_worded, AreWorded}
use Rattle.law_unit_names.proofs.Trees.{IsNamed, TypeIsNamed, FieldIsNamed, named-Struct, named-Array, named-field, ItemIsNamed, named-Block, named-Forall, TopIsNamed, TextIsNamed}

rest-worded : (front rest : Tokens) → AreWorded (front ++ rest) → AreWorded rest
rest-worded [] rest h = h
rest-worded (t ∷ front) rest h = rest-worded front rest h.1

behind-worded : (ts rest : Tokens) → IsBehind rest ts → AreWorded ts → AreWorded rest
behind-worded ts rest b h = rest-worded b.0 rest (subst AreWorded b.1 h)

-- ---- how rules are put together

-- of tokens whose names are words the rule spells only what has the property
pub record Gives {A : Type 0} (P : A → Type 0) (r : Rule A) : Type 0 where
  pub gives : (ts : Tokens) (a : A) (rest : Tokens) → AreWorded ts → r ts a rest → P a × AreWorded rest

abbrev Anything : {A : Type 0} → A → Type 0
Anything a = Unit {0}

kept : {A : Type 0} {r : Rule A} → ReadsFront r → Gives Anything r
kept f = record { gives = λ ts a rest n h. (tt, behind-worded ts rest (f.behind ts a rest h) n) }

-- by its form alone
alone : {A : Type 0} (P : A → Type 0) {r : Rule A} → ReadsFront r → ((ts : Tokens) (a : A) (rest : Tokens) → r ts a rest → P a) → Gives P r
alone P f is = record { gives = λ ts a rest n h. (is ts a rest h, behind-worded ts rest (f.behind ts a rest h) n) }

bind : {A B : Type 0} {P : A → Type 0} {Q : B → Type 0} {r : Rule A} {s : A → Rule B} → Gives P r → ((a : A) → P a → Gives Q (s a)) → Gives Q (r >>= s)
bind l k = record { gives = λ ts b rest n h. let x = l.gives ts h.0 h.1 n h.2 in (k h.0 x.0).gives h.1 b rest x.1 h.3 }

skip : {A B : Type 0} {Q : B → Type 0} {r : Rule A} {s : Rule B} → ReadsFront r → Gives Q s → Gives Q (r >> s)
skip f k = bind (kept f) (λ a u. k)

empty : {A : Type 0} {P : A → Type 0} (a : A) → P a → Gives P (nothing a)
empty {A} {P} a p = record { gives = λ ts b rest n h. (subst P h.0 p, subst AreWorded h.1 n) }

either : {A : Type 0} {P : A → Type 0} {r s : Rule A} → Gives P r → Gives P s → Gives P (r <|> s)
either {A} {P} {r} {s} l k = record { gives = λ ts a rest n h. by_case ts a rest n h }
  where
    by_case : (ts : Tokens) (a : A) (rest : Tokens) → AreWorded ts → (r <|> s) ts a rest → P a × AreWorded rest
    by_case ts a rest n (inl h) = l.gives ts a rest n h
    by_case ts a rest n (inr h) = k.gives ts a rest n h

several : {A : Type 0} {P : A → Type 0} {r : Rule A} → Gives P r → Gives (AllByRecursion P) (many r)
several {A} {P} {r} l = record { gives = by_list }
  where
    by_list : (ts : Tokens) (xs : List A) (rest : Tokens) → AreWorded ts → many r ts xs rest → AllByRecursion P xs × AreWorded rest
    by_list ts [] rest n h = (tt, subst AreWorded h n)
    by_list ts (a ∷ xs) rest n h =
        let x = l.gives ts a h.0 n h.1 in
        let y = by_list h.0 xs rest x.1 h.2 in
        ((x.0, y.0), y.1)

commas : {A : Type 0} {P : A → Type 0} {r : Rule A} → Gives P r → Gives (AllByRecursion P) (separated r)
commas l = bind l (λ x p. bind (several (skip (front-token w.comma) l)) (λ more q. empty (x ∷ more) (p, q)))

-- ---- names

some-same : {X : Type 0} (a b : X) → Some a ≡ Some b → a ≡ b
some-same a b h = cc

token-named : (at : ℕ) (k : TokenKind) (a : Word) → name_of at k ≡ Some a → is_worded k ≡ true → IsNamed a.name
token-named at (Ident bytes) a e h = subst (λ (x : Word). IsNamed x.name) (some-same (record { name = bytes; at = at }) a e) h
token-named at (Number value) a e h = absurd (cc (e))
token-named at (Sign i) a e h = absurd (cc (e))
token-named at (Reserved i) a e h = absurd (cc (e))

abbrev IsWord : Word → Type 0
IsWord word = IsNamed word.name

a_name : Gives IsWord name
a_name = record { gives = by_tokens }
  where
    by_tokens : (ts : Tokens) (a : Word) (rest : Tokens) → AreWorded ts → name ts a rest → IsWord a × AreWorded rest
    by_tokens [] a rest n h = absurd h
    by_tokens (t ∷ ts) a rest n h = (token-named t.at t.kind a h.0 n.0, subst AreWorded h.1 n.1)

-- ---- the levels

pub record Give (r : Rules) : Type 0 where
  pub type : Gives TypeIsNamed r.type
  pub field : Gives FieldIsNamed r.field
  pub item : Gives ItemIsNamed r.item
  pub body : Gives ItemIsNamed r.body

module _ (floor : ℕ → ℕ) (n : ℕ) (inner : Rules) (f : ReadFronts inner) (k : Give inner) where
  index-gives : Gives TypeIsNamed g.index
  index-gives =
      either (skip (front-token w.word_boolean) (empty type.Boolean tt))
      (either (bind (kept front-span) (λ s u. empty (type.Range s.0 s.1) tt)) (bind (kept front-name) (λ x u. empty (type.Named x x.at) tt)))

  type-gives : Gives TypeIsNamed (g.type_rule floor n inner)
  type-gives =
      either index-gives
      (either (bind (kept (opening floor n inner f w.open_brace)) (λ at u. bind (kept (front-separated front-name)) (λ names u. skip (front-token w.close_brace) (empty (type.Enum names at) tt))))
      (either (skip (front-token w.word_array) (bind (kept front-index) (λ over u. skip (opening floor n inner f w.word_of) (bind k.type (λ of h. empty (type.Array over of) (named-Array over of h))))))
      (skip (front-token w.word_struct) (skip (opening floor n inner f w.open_brace) (bind (several k.field) (λ fields h. skip (front-token w.close_brace) (empty (type.Struct fields) (named-Struct fields h))))))))

  field-gives : Gives FieldIsNamed (g.field_rule floor n inner)
  field-gives = bind (commas a_name) (λ names h. skip (front-token w.colon) (bind type-gives (λ of i. skip (front-token w.semicolon) (empty _ (named-field names of (g.place_of names) h i)))))

  claim-gives : Gives ItemIsNamed (g.claim floor n inner)
  claim-gives =
      bind a_name (λ x h. bind (kept (front-many (front-brackets floor n inner f))) (λ vars u. skip (front-token w.colon) (skip (front-token w.word_assert) (skip (front-token w.word_G) (bind (kept (front-expr floor n inner f)) (λ body u.
      skip (front-token w.semicolon) (empty (item.Claim x vars body x.at) h)))))))

  item-gives : Gives ItemIsNamed (g.item_rule floor n inner)
  item-gives =
      either (bind (kept (opening floor n inner f w.word_forall)) (λ at u. bind (kept f.binder) (λ b u. bind k.item (λ body h. empty _ (named-Forall b.0 b.1 body at h)))))
      (either (skip (opening floor n inner f w.open_brace) (bind (several k.item) (λ items h. skip (front-token w.close_brace) (empty (item.Block items) (named-Block items h)))))
      (either claim-gives
      (either (alone ItemIsNamed (front-split floor n inner f) (λ ts x rest h. subst ItemIsNamed h.3.3.3.3.3.3.3.3.0 tt))
      (either (alone ItemIsNamed (front-using floor n inner f) (λ ts x rest h. subst ItemIsNamed h.3.3.3.3.3.0 tt)) (bind (kept (front-simple floor n inner f)) (λ x u. empty (item.Act x) tt))))))

  declared-gives : (how : Role) (at : List Word → ℕ) → Gives ItemIsNamed (g.declared floor n inner how at)
  declared-gives how at = bind (commas a_name) (λ names h. skip (front-token w.colon) (bind type-gives (λ of i. skip (front-token w.semicolon) (empty (item.Declare how names of (at names)) (h, i)))))

  declaration-gives : Gives ItemIsNamed (g.declaration floor n inner)
  declaration-gives =
      either (bind (kept (front-one_of ((w.word_abstract, role.Abstract) ∷ (w.word_input, role.Input) ∷ (w.word_output, role.Output) ∷ []))) (λ r u. declared-gives r.0 (λ names. r.1))) (declared-gives role.Plain g.place_of)

  instance-gives : Gives ItemIsNamed (g.instance floor n inner)
  instance-gives =
      bind (commas a_name) (λ names h. skip (front-token w.colon) (bind (kept front-name) (λ m u. skip (opening floor n inner f w.open_paren) (bind (kept (front-or_none f.expr)) (λ args u.
      skip (front-token w.close_paren) (skip (front-token w.semicolon) (empty (item.Instance names m args (g.place_of names)) h)))))))

  layer-gives : Gives ItemIsNamed (g.layer floor n inner)
  layer-gives =
      bind (kept (front-token w.word_layer)) (λ at u. bind a_name (λ x h. skip (front-token w.colon) (skip (opening floor n inner f w.open_brace) (bind (kept (front-many f.stmt)) (λ body u. skip (front-token w.close_brace) (empty (item.Layer x body at) h))))))

  body-gives : Gives ItemIsNamed (g.body_rule floor n inner)
  body-gives = either declaration-gives (either instance-gives (either layer-gives item-gives))

  top-gives : Gives TopIsNamed (g.top_rule floor n inner)
  top-gives =
      either (skip (front-token w.word_scalarset) (bind (kept front-name) (λ x u. bind (kept front-extent) (λ s u. skip (front-token w.semicolon) (empty (top.SetType x false s.0 s.1) tt)))))
      (either (skip (front-token w.word_ordset) (bind (kept front-name) (λ x u. bind (kept (front-token w.word_undefined)) (λ at u. skip (front-token w.semicolon) (empty (top.SetType x true None at) tt)))))
      (either (bind (kept (front-token w.word_typedef)) (λ at u. bind (kept front-name) (λ x u. bind type-gives (λ of h. skip (front-token w.semicolon) (empty (top.Alias x of at) h)))))
      (bind (kept (front-token w.word_module)) (λ at u. bind (kept front-name) (λ x u. skip (opening floor n inner f w.open_paren) (bind (kept (front-or_none front-name)) (λ formals u. skip (front-token w.close_paren)
      (skip (opening floor n inner f w.open_brace) (bind (several k.body) (λ items h. skip (front-token w.close_brace) (empty (top.Module x formals items at) h)))))))))))

no-give : Give no_rules
no-give = record {
  type = record { gives = λ ts a rest n h. absurd h };
  field = record { gives = λ ts a rest n h. absurd h };
  item = record { gives = λ ts a rest n h. absurd h };
  body = record { gives = λ ts a rest n h. absurd h };
}

below-gives : (floor : ℕ → ℕ) (n : ℕ) → Give (below floor n)
below-gives floor zero = no-give
below-gives floor (suc n) = record {
  type = type-gives floor n (below floor n) (below-front floor n) (below-gives floor n);
  field = field-gives floor n (below floor n) (below-front floor n) (below-gives floor n);
  item = item-gives floor n (below floor n) (below-front floor n) (below-gives floor n);
  body = body-gives floor n (below floor n) (below-front floor n) (below-gives floor n);
}

pub text-named : (n : ℕ) (tokens : Tokens) (tree : Text) → AreWorded tokens → Spells n tokens tree → TextIsNamed tree
unfolding Spells
text-named n tokens tree h spelled = ((several (top-gives (λ at. 0) n (below (λ at. 0) n) (below-front (λ at. 0) n) (below-gives (λ at. 0) n))).gives tokens tree.tops [] h spelled).0
