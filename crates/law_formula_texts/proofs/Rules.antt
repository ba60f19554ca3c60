-- What rules give where something is known of the tokens that stays true behind each token, and that says something of each name: the pieces of which all rules are made.
use Rattle.std.proofs.Common.{◌≡◌, ℕ, List, [], ◌∷◌, inl, inr, Option, Some, None, ap, subst}
use Rattle.std.specs.List.{AllByRecursion}
use Rattle.smv_core.specs.Values.{Name}
use Rattle.smv_core.specs.declared.token.Token.{Token}
use Rattle.smv_core.specs.declared.token.TokenKind.{TokenKind}
use Rattle.smv_core.specs.declared.token.TokenKind.TheVariants.{Ident, Number, Sign, Reserved}
use Rattle.smv_core.specs.declared.tree.Word.{Word}
use Rattle.smv_core.specs.Signs.{comma}
use Rattle.smv_core.specs.Notation.{Tokens, Rule, nothing, ◌>>=◌, ◌>>◌, ◌<|>◌, many, optional, placed, one, one_of, token, name_of, name, number, same_name, positive, separated, separated_or_none, opener}

-- of a name, where the kind is one
abbrev pub KindOk : (Name → Type 0) → TokenKind → Type 0
KindOk N (Ident bytes) = N bytes
KindOk N _ = Unit {0}

abbrev pub Any : {A : Type 0} → A → Type 0
Any a = Unit {0}

abbrev pub NameHas : (Name → Type 0) → Word → Type 0
NameHas N word = N word.name

abbrev pub OrNone : {A : Type 0} → (A → Type 0) → Option A → Type 0
OrNone P None = Unit {0}
OrNone P (Some a) = P a

module _ (N : Name → Type 0) (S : Tokens → Type 0) (rests : (t : Token) (ts : Tokens) → S (t ∷ ts) → S ts) (kinds : (t : Token) (ts : Tokens) → S (t ∷ ts) → KindOk N t.kind) where
  -- what a rule spells has this property, and what is known of the tokens is known of those behind it
  abbrev pub Gives : {A : Type 0} → (A → Type 0) → Rule A → Type 0
  Gives {A} P r = (ts : Tokens) (a : A) (rest : Tokens) → r ts a rest → S ts → P a × S rest

  -- ---- how rules are put together

  pub done : {A : Type 0} (P : A → Type 0) (a : A) → P a → Gives P (nothing a)
  done P a h ts b rest (e, f) ok = (subst P e h, subst S f ok)

  pub then : {A B : Type 0} (P : A → Type 0) (Q : B → Type 0) (r : Rule A) (s : A → Rule B) → Gives P r → ((a : A) → P a → Gives Q (s a)) → Gives Q (r >>= s)
  then P Q r s g h ts b rest (a, middle, x, y) ok = let u = g ts a middle x ok in h a u.0 middle b rest y u.1

  pub either : {A : Type 0} (P : A → Type 0) (r s : Rule A) → Gives P r → Gives P s → Gives P (r <|> s)
  either P r s g h ts a rest (inl x) ok = g ts a rest x ok
  either P r s g h ts a rest (inr x) ok = h ts a rest x ok

  pub many-gives : {A : Type 0} (P : A → Type 0) (r : Rule A) → Gives P r → Gives (AllByRecursion P) (many r)
  many-gives P r g ts [] rest e ok = (tt, subst S e ok)
  many-gives P r g ts (a ∷ more) rest (middle, x, y) ok =
      let u = g ts a middle x ok in
      let v = many-gives P r g middle more rest y u.1 in
      ((u.0, v.0), v.1)

  pub optional-gives : {A : Type 0} (P : A → Type 0) (r : Rule A) → Gives P r → Gives (OrNone P) (optional r)
  optional-gives P r g ts o rest (inl (a, middle, x, (e, f))) ok = let u = g ts a middle x ok in (subst (OrNone P) e u.0, subst S f u.1)
  optional-gives P r g ts o rest (inr (e, f)) ok = (subst (OrNone P) e tt, subst S f ok)

  pub placed-gives : {A : Type 0} (P : A → Type 0) (r : Rule A) → Gives P r → Gives (λ a. P a.0) (placed r)
  placed-gives P r g [] a rest x ok = absurd x
  placed-gives P r g (t ∷ ts) a rest (x, e) ok = g (t ∷ ts) a.0 rest x ok

  -- ---- single tokens

  pub one-gives : {A : Type 0} (read : Token → Option A) → Gives Any (one read)
  one-gives read [] a rest x ok = absurd x
  one-gives read (t ∷ ts) a rest (e, f) ok = (tt, subst S f (rests t ts ok))

  pub token-gives : (k : TokenKind) → Gives Any (token k)
  token-gives k = one-gives _

  pub one_of-gives : {A : Type 0} (list : List (TokenKind × A)) → Gives Any (one_of list)
  one_of-gives list = one-gives _

  pub number-gives : Gives Any number
  number-gives = one-gives _

  name-kind : (at : ℕ) (k : TokenKind) (x : Word) → name_of at k ≡ Some x → KindOk N k → N x.name
  name-kind at (Ident bytes) x e h = subst N (same e) h
    where
      name_in : Option Word → Name
      name_in None = bytes
      name_in (Some word) = word.name

      same : Some (record { name = bytes; at = at }) ≡ Some x → bytes ≡ x.name
      same q = ap name_in q
  name-kind at (Number n) x e h = absurd (cc (e))
  name-kind at (Sign i) x e h = absurd (cc (e))
  name-kind at (Reserved i) x e h = absurd (cc (e))

  pub name-gives : Gives (NameHas N) name
  name-gives [] x rest p ok = absurd p
  name-gives (t ∷ ts) x rest (e, f) ok = (name-kind t.at t.kind x e (kinds t ts ok), subst S f (rests t ts ok))

  pub same_name-gives : (w : Word) → Gives Any (same_name w)
  same_name-gives w ts u rest (v, middle, x, (e, (p, q))) ok = let r = name-gives ts v middle x ok in (tt, subst S q r.1)

  pub positive-gives : Gives Any positive
  positive-gives ts m rest (k, middle, x, (e, (p, q))) ok = let r = number-gives ts k middle x ok in (tt, subst S q r.1)

  pub opener-gives : (floor : ℕ → ℕ) (n : ℕ) (k : TokenKind) → Gives Any (opener floor n k)
  opener-gives floor n k ts at rest (o, middle, x, (u, inner, (lt, (e, f)), (g, h))) ok = let r = token-gives k ts o middle x ok in (tt, subst S h (subst S f r.1))

  -- ---- lists

  pub separated-gives : {A : Type 0} (P : A → Type 0) (r : Rule A) → Gives P r → Gives (AllByRecursion P) (separated r)
  separated-gives P r g ts xs rest (x, middle, p, (more, last, q, (e, f))) ok =
      let u = g ts x middle p ok in
      let v = many-gives P (token comma >> r) (then Any P (token comma) (λ _. r) (token-gives comma) (λ a h. g)) middle more last q u.1 in
      (subst (AllByRecursion P) e (u.0, v.0), subst S f v.1)

  pub or_none-gives : {A : Type 0} (P : A → Type 0) (r : Rule A) → Gives P r → Gives (AllByRecursion P) (separated_or_none r)
  or_none-gives P r g = either (AllByRecursion P) (separated r) (nothing []) (separated-gives P r g) (done (AllByRecursion P) [] tt)
