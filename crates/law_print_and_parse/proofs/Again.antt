-- Tokens of given kinds, wherever they stand, are read by a rule as a value of which something holds.
use Rattle.std.proofs.Common.{◌≡◌, ℕ, ◌<◌, Bool, true, if◌then◌else◌, List, [], ◌∷◌, ◌++◌, Option, Some, None, map, inl, inr, refl, ap, sym, ◌∙◌, subst}
use Rattle.std.specs.List.{flat_map}
use Rattle.smv_core.specs.declared.token.Token.{Token}
use Rattle.smv_core.specs.declared.token.TokenKind.{TokenKind}
use Rattle.smv_core.specs.declared.token.TokenKind.TheVariants.{Ident, Number}
use Rattle.smv_core.specs.declared.tree.Word.{Word}
use Rattle.smv_core.specs.Notation.{Tokens, Rule, nothing, ◌>>=◌, ◌<|>◌, many, token, name, number, opener, same_kind, name_of, number_of, with_place, one_of, found, same_name}
use Rattle.smv_print.specs.Written.{Kinds}
use Rattle.law_print_and_parse.specs.SpellingLaws.{kinds_of}

-- the tokens begin with these kinds, and the rest comes after them
abbrev pub Front : Kinds → Tokens → Tokens → Type 0
Front [] us rest = us ≡ rest
Front (k ∷ ks) [] rest = ⊥
Front (k ∷ ks) (u ∷ us) rest = (u.kind ≡ k) × Front ks us rest

pub cut : (ks ls : Kinds) (us rest : Tokens) → Front (ks ++ ls) us rest → (mid : Tokens) × Front ks us mid × Front ls mid rest
cut [] ls us rest h = (us, refl, h)
cut (k ∷ ks) ls [] rest h = absurd h
cut (k ∷ ks) ls (u ∷ us) rest (e, h) = let c = cut ks ls us rest h in (c.0, (e, c.1), c.2)

own : (us : Tokens) → Front (kinds_of us) us []
own [] = refl
own (u ∷ us) = (refl, own us)

pub whole : (us : Tokens) (ks : Kinds) → kinds_of us ≡ ks → Front ks us []
whole us ks e = subst (λ (z : Kinds). Front z us []) e (own us)

-- what holds of tokens by their places, and still holds where the first is passed
pub record Places : Type 1 where
  pub holds : Tokens → Type 0
  pub later : (u : Token) (us : Tokens) → holds (u ∷ us) → holds us

abbrev pub anywhere : Places
anywhere = record { holds = λ us. Unit {0}; later = λ u us h. tt }

pub passed : (places : Places) (ks : Kinds) (us rest : Tokens) → Front ks us rest → places.holds us → places.holds rest
passed places [] us rest h w = subst places.holds h w
passed places (k ∷ ks) [] rest h w = absurd h
passed places (k ∷ ks) (u ∷ us) rest (e, h) w = passed places ks us rest h (places.later u us w)

-- tokens of these kinds at such places are read, and what is read has the property
pub record Reads (places : Places) {A : Type 0} (r : Rule A) (ks : Kinds) (P : A → Type 0) : Type 0 where
  pub run : (us rest : Tokens) → places.holds us → Front ks us rest → (x : A) × r us x rest × P x

-- tokens of these kinds are read, wherever they stand
abbrev pub Again : {A : Type 0} → Rule A → Kinds → (A → Type 0) → Type 0
Again r ks P = Reads anywhere r ks P

pub anyhow : {places : Places} {A : Type 0} {r : Rule A} {ks : Kinds} {P : A → Type 0} → Again r ks P → Reads places r ks P
anyhow f = record { run = λ us rest w h. f.run us rest tt h }

pub next : {places : Places} {A B : Type 0} {r : Rule A} {s : A → Rule B} {ks ls : Kinds} {P : A → Type 0} {Q : B → Type 0}
    → Reads places r ks P → ((x : A) → P x → Reads places (s x) ls Q) → Reads places (r >>= s) (ks ++ ls) Q
next {places = places} {ks = ks} {ls = ls} f g = record {
  run = λ us rest w h.
      let c = cut ks ls us rest h in
      let x = f.run us c.0 w c.1 in
      let y = (g x.0 x.2).run c.0 rest (passed places ks us c.0 c.1 w) c.2 in
      (y.0, (x.0, c.0, x.1, y.1), y.2);
}

pub made : {places : Places} {A B : Type 0} {r : Rule A} {z : A → B} {ks : Kinds} {P : A → Type 0} {Q : B → Type 0}
    → Reads places r ks P → ((x : A) → P x → Q (z x)) → Reads places (r >>= λ x. nothing (z x)) ks Q
made {z = z} f g = record {
  run = λ us rest w h.
      let x = f.run us rest w h in
      (z x.0, (x.0, rest, x.1, (refl, refl)), g x.0 x.2);
}

pub ended : {places : Places} {B : Type 0} {z : B} {Q : B → Type 0} → Q z → Reads places (nothing z) [] Q
ended {z = z} q = record { run = λ us rest w h. (z, (refl, h), q) }

pub left : {places : Places} {A : Type 0} {r s : Rule A} {ks : Kinds} {P : A → Type 0} → Reads places r ks P → Reads places (r <|> s) ks P
left f = record { run = λ us rest w h. let x = f.run us rest w h in (x.0, inl x.1, x.2) }

pub right : {places : Places} {A : Type 0} {r s : Rule A} {ks : Kinds} {P : A → Type 0} → Reads places s ks P → Reads places (r <|> s) ks P
right f = record { run = λ us rest w h. let x = f.run us rest w h in (x.0, inr x.1, x.2) }

pub regroup : {places : Places} {A : Type 0} {r : Rule A} {ks ls : Kinds} {P : A → Type 0} → ks ≡ ls → Reads places r ks P → Reads places r ls P
regroup {places = places} {r = r} {P = P} e f = subst (λ ls. Reads places r ls P) e f

pub weaker : {places : Places} {A : Type 0} {r : Rule A} {ks : Kinds} {P Q : A → Type 0} → Reads places r ks P → ((x : A) → P x → Q x) → Reads places r ks Q
weaker f g = record { run = λ us rest w h. let x = f.run us rest w h in (x.0, x.1, g x.0 x.2) }

-- ---- single tokens

token-kind : (k j : TokenKind) (at : ℕ) → same_kind k k ≡ true → j ≡ k → (if same_kind j k then Some at else None) ≡ Some at
token-kind k j at s e = let P : TokenKind → Type 0 = λ j. (if same_kind j k then Some at else None) ≡ Some at in
    subst P (sym e) (ap (λ (b : Bool). if b then Some at else None) s)

pub sign : {places : Places} {B : Type 0} {k : TokenKind} {s : ℕ → Rule B} {ls : Kinds} {Q : B → Type 0}
    → same_kind k k ≡ true → ((at : ℕ) → Reads places (s at) ls Q) → Reads places (token k >>= s) (k ∷ ls) Q
sign {places = places} {k = k} {s = s} {ls = ls} {Q = Q} same g = record { run = go }
  where
    go : (us rest : Tokens) → places.holds us → Front (k ∷ ls) us rest → (x : _) × (token k >>= s) us x rest × Q x
    go [] rest w h = absurd h
    go (u ∷ us) rest w (e, h) =
        let y = (g u.at).run us rest (places.later u us w) h in
        (y.0, (u.at, us, (token-kind k u.kind u.at same e, refl), y.1), y.2)

pub level : {places : Places} {B : Type 0} {n : ℕ} {k : TokenKind} {s : ℕ → Rule B} {ls : Kinds} {Q : B → Type 0}
    → 0 < n → same_kind k k ≡ true → ((at : ℕ) → Reads places (s at) ls Q) → Reads places (opener (λ at. 0) n k >>= s) (k ∷ ls) Q
level {places = places} {n = n} {k = k} {s = s} {ls = ls} {Q = Q} some same g = record { run = go }
  where
    go : (us rest : Tokens) → places.holds us → Front (k ∷ ls) us rest → (x : _) × (opener (λ at. 0) n k >>= s) us x rest × Q x
    go [] rest w h = absurd h
    go (u ∷ us) rest w (e, h) =
        let y = (g u.at).run us rest (places.later u us w) h in
        (y.0, (u.at, us, (u.at, us, (token-kind k u.kind u.at same e, refl), (tt, us, (some, (refl, refl)), (refl, refl))), y.1), y.2)

name-kind : (k : TokenKind) (bytes : List ℕ) (at : ℕ) → k ≡ Ident bytes → name_of at k ≡ Some (record { name = bytes; at = at })
name-kind k bytes at e = let P : TokenKind → Type 0 = λ k. name_of at k ≡ Some (record { name = bytes; at = at }) in subst P (sym e) refl

pub a-name : {places : Places} (bytes : List ℕ) → Reads places name (Ident bytes ∷ []) (λ x. x.name ≡ bytes)
a-name {places} bytes = record { run = go }
  where
    go : (us rest : Tokens) → places.holds us → Front (Ident bytes ∷ []) us rest → (x : Word) × name us x rest × (x.name ≡ bytes)
    go [] rest w h = absurd h
    go (u ∷ us) rest w (e, h) = (record { name = bytes; at = u.at }, (name-kind u.kind bytes u.at e, h), refl)

number-kind : (k : TokenKind) (value at : ℕ) → k ≡ Number value → with_place at (number_of k) ≡ Some (value, at)
number-kind k value at e = let P : TokenKind → Type 0 = λ k. with_place at (number_of k) ≡ Some (value, at) in subst P (sym e) refl

pub a-number : {places : Places} (value : ℕ) → Reads places number (Number value ∷ []) (λ x. x.0 ≡ value)
a-number {places} value = record { run = go }
  where
    go : (us rest : Tokens) → places.holds us → Front (Number value ∷ []) us rest → (x : ℕ × ℕ) × number us x rest × (x.0 ≡ value)
    go [] rest w h = absurd h
    go (u ∷ us) rest w (e, h) = ((value, u.at), (number-kind u.kind value u.at e, h), refl)

entry-kind : {B : Type 0} (list : List (TokenKind × B)) (k j : TokenKind) (b : B) (at : ℕ) → found list k ≡ Some b → j ≡ k → with_place at (found list j) ≡ Some (b, at)
entry-kind {B} list k j b at h e = let P : TokenKind → Type 0 = λ j. with_place at (found list j) ≡ Some (b, at) in subst P (sym e) (ap (λ (o : Option B). with_place at o) h)

-- a sign or word of a list
pub an-entry : {places : Places} {B : Type 0} (list : List (TokenKind × B)) {k : TokenKind} {b : B} → found list k ≡ Some b → Reads places (one_of list) (k ∷ []) (λ y. y.0 ≡ b)
an-entry {places} {B} list {k = k} {b = b} h = record { run = go }
  where
    go : (us rest : Tokens) → places.holds us → Front (k ∷ []) us rest → (y : B × ℕ) × one_of list us y rest × (y.0 ≡ b)
    go [] rest w l = absurd l
    go (u ∷ us) rest w (e, l) = ((b, u.at), (entry-kind list k u.kind b u.at h e, l), refl)

-- the name that was written before
pub a-same-name : {places : Places} (bytes : List ℕ) (x : Word) → x.name ≡ bytes → Reads places (same_name x) (Ident bytes ∷ []) (λ y. y.name ≡ bytes)
a-same-name {places} bytes x d = record {
  run = λ us rest w h.
      let n : Reads places name (Ident bytes ∷ []) (λ y. y.name ≡ bytes) = a-name bytes in
      let y = n.run us rest w h in
      (y.0, (y.0, rest, y.1, (y.2 ∙ sym d, (refl, refl))), y.2);
}

-- ---- lists

-- each of a list
abbrev pub Every : {A : Type 0} → (A → Type 0) → List A → Type 0
Every Q [] = Unit {0}
Every Q (x ∷ xs) = Q x × Every Q xs

-- each of a list is read as one that is the same, places aside
pub many-again : {places : Places} {A : Type 0} {r : Rule A} (ks : A → Kinds) (aside : A → A) (xs : List A) → Every (λ x. Reads places r (ks x) (λ y. aside y ≡ aside x)) xs
    → Reads places (many r) (flat_map ks xs) (λ ys. map aside ys ≡ map aside xs)
many-again ks aside [] e = record { run = λ us rest w h. ([], h, refl) }
many-again {places} {A} {r} ks aside (x ∷ xs) e = record {
  run = λ us rest w h.
      let c = cut (ks x) (flat_map ks xs) us rest h in
      let y = e.0.run us c.0 w c.1 in
      let ys = (many-again {places = places} {r = r} ks aside xs e.1).run c.0 rest (passed places (ks x) us c.0 c.1 w) c.2 in
      (y.0 ∷ ys.0, (c.0, y.1, ys.1), ap (λ (z : A). z ∷ map aside ys.0) y.2 ∙ ap (λ (zs : List A). aside x ∷ zs) ys.2);
}
