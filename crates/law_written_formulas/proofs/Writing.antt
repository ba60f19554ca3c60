-- Tokens of some kinds spell a value, places aside, wherever they stand: what is put together from such rules.
use Rattle.std.proofs.Common.{◌≡◌, ◌<◌, ℕ, List, [], ◌∷◌, ◌++◌, Option, Some, None, Bool, true, if◌then◌else◌, inl, inr, refl, sym, ap, ◌∙◌, subst, append_assoc}
use Rattle.std.specs.List.{AllZip}
use Rattle.law_lists.proofs.Lists.{head_is, tail_is}
use Rattle.smv_core.specs.declared.token.Token.{Token}
use Rattle.smv_core.specs.declared.token.TokenKind.{TokenKind}
use Rattle.smv_core.specs.declared.token.TokenKind.TheVariants.{Ident, Number}
use Rattle.smv_core.specs.declared.tree.Word.{Word}
use Rattle.smv_core.specs.Notation.{Tokens, Rule, nothing, ◌>>=◌, ◌>>◌, ◌<|>◌, many, one, one_of, found, with_place, token, name, name_of, number, number_of, same_kind, opens, opener}
use Rattle.law_spelled_alike.specs.Local.{kinds_of, Any, SameName, SameValue}

-- tokens of these kinds spell by the rule what is so related to the value, whatever stands behind them
abbrev pub Sp : {A B : Type 0} → (A → B → Type 0) → Rule B → List TokenKind → A → Type 0
Sp {A} {B} R r ks a = (us rest ts : Tokens) → kinds_of us ≡ ks → ts ≡ us ++ rest → (b : B) × r ts b rest × R a b

abbrev pub z : ℕ → ℕ
z at = 0

-- tokens of the kinds of two lists are two such lists
pub record CutKinds (us : Tokens) (ks ls : List TokenKind) : Type 0 where
  pub left : Tokens
  pub right : Tokens
  pub split : us ≡ left ++ right
  pub first : kinds_of left ≡ ks
  pub second : kinds_of right ≡ ls

cut-kinds : (us : Tokens) (ks ls : List TokenKind) → kinds_of us ≡ ks ++ ls → CutKinds us ks ls
cut-kinds us [] ls e = record { left = []; right = us; split = refl; first = refl; second = e }
cut-kinds [] (k ∷ ks) ls e = absurd (cc)
cut-kinds (u ∷ us) (k ∷ ks) ls e =
    let i = cut-kinds us ks ls (tail_is e) in
    record {
      left = u ∷ i.left;
      right = i.right;
      split = ap (λ l. u ∷ l) i.split;
      first = ap (λ j. j ∷ kinds_of i.left) (head_is e) ∙ ap (λ l. k ∷ l) i.first;
      second = i.second;
    }

one-kind : (us : Tokens) (k : TokenKind) → kinds_of us ≡ k ∷ [] → (u : Token) × (us ≡ u ∷ []) × (u.kind ≡ k)
one-kind [] k e = absurd (cc)
one-kind (u ∷ []) k e = (u, refl, head_is e)
one-kind (u ∷ v ∷ us) k e = absurd (cc (tail_is e))

-- ---- other kinds

pub sp-kinds : {A B : Type 0} (R : A → B → Type 0) (r : Rule B) (ks ls : List TokenKind) (a : A) → ks ≡ ls → Sp R r ks a → Sp R r ls a
sp-kinds R r ks ls a same u us rest ts e eq = u us rest ts (e ∙ sym same) eq

-- ---- nothing, one rule after another, and choices

pub sp-nothing : {A B : Type 0} (R : A → B → Type 0) (a : A) (b : B) → R a b → Sp R (nothing b) [] a
sp-nothing R a b p [] rest ts e eq = (b, (refl, eq), p)
sp-nothing R a b p (u ∷ us) rest ts e eq = absurd (cc)

pub sp-seq : {A B C D : Type 0} (R : A → B → Type 0) (S : C → D → Type 0) (r : Rule B) (s : B → Rule D) (ks ls : List TokenKind) (a : A) (c : C) → Sp R r ks a → ((b : B) → R a b → Sp S (s b) ls c) → Sp S (r >>= s) (ks ++ ls) c
sp-seq R S r s ks ls a c u v us rest ts e eq =
    let i = cut-kinds us ks ls e in
    let x = u i.left (i.right ++ rest) ts i.first (eq ∙ ap (λ l. l ++ rest) i.split ∙ append_assoc i.left i.right rest) in
    let y = v x.0 x.2 i.right rest (i.right ++ rest) i.second refl in
    (y.0, (x.0, i.right ++ rest, x.1, y.1), y.2)

-- a rule behind which nothing more is spelled
pub sp-end : {A B C D : Type 0} (R : A → B → Type 0) (S : C → D → Type 0) (r : Rule B) (s : B → Rule D) (ks : List TokenKind) (a : A) (c : C) → Sp R r ks a → ((b : B) → R a b → Sp S (s b) [] c) → Sp S (r >>= s) ks c
sp-end R S r s ks a c u v us rest ts e eq =
    let x = u us rest ts e eq in
    let y = v x.0 x.2 [] rest rest refl refl in
    (y.0, (x.0, rest, x.1, y.1), y.2)

pub sp-left : {A B : Type 0} (R : A → B → Type 0) (r s : Rule B) (ks : List TokenKind) (a : A) → Sp R r ks a → Sp R (r <|> s) ks a
sp-left R r s ks a u us rest ts e eq = let x = u us rest ts e eq in (x.0, inl x.1, x.2)

pub sp-right : {A B : Type 0} (R : A → B → Type 0) (r s : Rule B) (ks : List TokenKind) (a : A) → Sp R s ks a → Sp R (r <|> s) ks a
sp-right R r s ks a u us rest ts e eq = let x = u us rest ts e eq in (x.0, inr x.1, x.2)

-- ---- single tokens

-- one token from which a value is read
sp-one : {A B : Type 0} (R : A → B → Type 0) (read : Token → Option B) (k : TokenKind) (a : A) → ((t : Token) → t.kind ≡ k → (b : B) × (read t ≡ Some b) × R a b) → Sp R (one read) (k ∷ []) a
sp-one R read k a h us rest ts e eq =
    let i = one-kind us k e in
    let x = h i.0 i.2 in
    (x.0, subst (λ l. one read l x.0 rest) (sym (eq ∙ ap (λ l. l ++ rest) i.1)) (x.1, refl), x.2)

pub sp-token : (k : TokenKind) → same_kind k k ≡ true → Sp {A = Unit {0}} Any (token k) (k ∷ []) tt
sp-token k same = sp-one {A = Unit {0}} Any _ k tt (λ t e. (t.at, ap (λ (b : Bool). if b then Some t.at else None) (ap (λ j. same_kind j k) e ∙ same), tt))

pub sp-name : (x : Word) → Sp SameName name (Ident x.name ∷ []) x
sp-name x = sp-one SameName _ (Ident x.name) x (λ t e. (record { name = x.name; at = t.at }, ap (name_of t.at) e, refl))

pub sp-number : (v : ℕ) → Sp SameValue number (Number v ∷ []) (v, 0)
sp-number v = sp-one SameValue _ (Number v) (v, 0) (λ t e. ((v, t.at), ap (λ k. with_place t.at (number_of k)) e, refl))

abbrev pub IsFirst : {A : Type 0} → A → A × ℕ → Type 0
IsFirst x y = x ≡ y.0

pub sp-one_of : {A : Type 0} (list : List (TokenKind × A)) (k : TokenKind) (a : A) → found list k ≡ Some a → Sp IsFirst (one_of list) (k ∷ []) a
sp-one_of list k a same = sp-one IsFirst _ k a (λ t e. ((a, t.at), ap (λ j. with_place t.at (found list j)) e ∙ ap (with_place t.at) same, refl))

-- a sign or word that opens a level
pub sp-opener : (n : ℕ) → 0 < n → (k : TokenKind) → same_kind k k ≡ true → Sp {A = Unit {0}} Any (opener z n k) (k ∷ []) tt
sp-opener n lt k same = sp-end {A = Unit {0}} {C = Unit {0}} Any Any (token k) (λ at. opens z n at >> nothing at) (k ∷ []) tt tt (sp-token k same) opened
  where
    opened : (at : ℕ) → Unit {0} → Sp {A = Unit {0}} Any (opens z n at >> nothing at) [] tt
    opened at _ [] rest ts e eq = (at, (tt, ts, (lt, (refl, refl)), (refl, eq)), tt)
    opened at _ (u ∷ us) rest ts e eq = absurd (cc)

-- ---- before and behind

pub sp-after : {A B : Type 0} (R : A → B → Type 0) (k : TokenKind) → same_kind k k ≡ true → (r : Rule B) (ks : List TokenKind) (a : A) → Sp R r ks a → Sp R (token k >> r) (k ∷ ks) a
sp-after R k same r ks a u = sp-seq {A = Unit {0}} Any R (token k) (λ _. r) (k ∷ []) ks tt a (sp-token k same) (λ _ _. u)

pub sp-open : {A B : Type 0} (R : A → B → Type 0) (n : ℕ) → 0 < n → (k : TokenKind) → same_kind k k ≡ true → (r : Rule B) (ks : List TokenKind) (a : A) → Sp R r ks a → Sp R (opener z n k >> r) (k ∷ ks) a
sp-open R n lt k same r ks a u = sp-seq {A = Unit {0}} Any R (opener z n k) (λ _. r) (k ∷ []) ks tt a (sp-opener n lt k same) (λ _ _. u)

-- ---- lists

pub sp-none : {A B : Type 0} (R : A → B → Type 0) (r : Rule B) → Sp {A = List A} (AllZip R) (many r) [] []
sp-none R r [] rest ts e eq = ([], eq, tt)
sp-none R r (u ∷ us) rest ts e eq = absurd (cc)

pub sp-more : {A B : Type 0} (R : A → B → Type 0) (r : Rule B) (ks ls : List TokenKind) (a : A) (more : List A) → Sp R r ks a → Sp (AllZip R) (many r) ls more → Sp (AllZip R) (many r) (ks ++ ls) (a ∷ more)
sp-more R r ks ls a more u v us rest ts e eq =
    let i = cut-kinds us ks ls e in
    let x = u i.left (i.right ++ rest) ts i.first (eq ∙ ap (λ l. l ++ rest) i.split ∙ append_assoc i.left i.right rest) in
    let y = v i.right rest (i.right ++ rest) i.second refl in
    (x.0 ∷ y.0, (i.right ++ rest, x.1, y.1), (x.2, y.2))

-- none of many
pub sp-many_none : {A C D : Type 0} (S : C → D → Type 0) (r : Rule A) (s : List A → Rule D) (ks : List TokenKind) (c : C) → Sp S (s []) ks c → Sp S (many r >>= s) ks c
sp-many_none S r s ks c u us rest ts e eq = let y = u us rest ts e eq in (y.0, ([], ts, refl, y.1), y.2)
