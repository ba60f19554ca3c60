-- Rules that look at nothing but the kinds of the tokens that they take.
use Rattle.std.specs.Prelude.{◌≡◌, ℕ, List, [], ◌∷◌, ◌++◌, map, Option, Some, None}
use Rattle.smv_core.specs.declared.token.Token.{Token}
use Rattle.smv_core.specs.Values.{Name}
use Rattle.smv_core.specs.declared.token.TokenKind.{TokenKind}
use Rattle.smv_core.specs.declared.token.TokenKind.TheVariants.{Ident, Number, Sign, Reserved}
use Rattle.smv_core.specs.declared.tree.Word.{Word}
use Rattle.smv_core.specs.Notation.{Tokens, Rule}

-- tokens without their places
abbrev pub kinds_of : Tokens → List TokenKind
kinds_of ts = map (λ (t : Token). t.kind) ts

-- each token is of such a kind
abbrev pub AllKinds : (TokenKind → Type 0) → Tokens → Type 0
AllKinds P [] = Unit {0}
AllKinds P (t ∷ ts) = P t.kind × AllKinds P ts

-- tokens of these kinds
abbrev pub AreOfKinds : Tokens → Tokens → Type 0
AreOfKinds us ts = kinds_of us ≡ kinds_of ts

-- The value is spelled by a front of the tokens, of which something is known. Other tokens that are so related to it, in its place, spell a related value, whatever stands behind them.
pub record TakenBy {A B : Type 0} (E : Tokens → Type 0) (K : Tokens → Tokens → Type 0) (R : A → B → Type 0) (r : Rule B) (ts : Tokens) (a : A) (rest : Tokens) : Type 0 where
  pub front : Tokens
  pub split : ts ≡ front ++ rest
  pub each : E front
  pub again : (us more : Tokens) → K us front → (b : B) × r (us ++ more) b more × R a b

-- what the first rule spells, the second spells with related tokens
abbrev pub IsLocalBy : {A B : Type 0} → (Tokens → Type 0) → (Tokens → Tokens → Type 0) → (A → B → Type 0) → Rule A → Rule B → Type 0
IsLocalBy {A} E K R r r' = (ts : Tokens) (a : A) (rest : Tokens) → r ts a rest → TakenBy E K R r' ts a rest

-- so it is with tokens of the same kinds, where each token of the front is of such a kind
abbrev pub Taken : {A B : Type 0} → (TokenKind → Type 0) → (A → B → Type 0) → Rule B → Tokens → A → Tokens → Type 0
Taken P R r ts a rest = TakenBy (AllKinds P) AreOfKinds R r ts a rest

-- what the first rule spells, the second spells with tokens of the same kinds
abbrev pub IsLocal : {A B : Type 0} → (TokenKind → Type 0) → (A → B → Type 0) → Rule A → Rule B → Type 0
IsLocal P R r r' = IsLocalBy (AllKinds P) AreOfKinds R r r'

-- ---- which fronts, and how other tokens are related to them

-- a kind with another name in it
abbrev pub kind_by : (Name → Name) → TokenKind → TokenKind
kind_by n (Ident bytes) = Ident (n bytes)
kind_by n (Number value) = Number value
kind_by n (Sign i) = Sign i
kind_by n (Reserved i) = Reserved i

-- tokens that are related to those of two lists, parted
pub record CutBy (K : Tokens → Tokens → Type 0) (us xs ys : Tokens) : Type 0 where
  pub left : Tokens
  pub right : Tokens
  pub split : us ≡ left ++ right
  pub first : K left xs
  pub second : K right ys

-- Fronts are closed under putting together, and related tokens are parted as they are. A token alone, of one of some kinds, is related to one of its kind, or with another name in it.
pub record Fronts (P : TokenKind → Type 0) (E : Tokens → Type 0) (K : Tokens → Tokens → Type 0) (n : Name → Name) : Type 0 where
  pub none : E []
  pub single : (t : Token) → P t.kind → E (t ∷ [])
  pub both : (xs ys : Tokens) → E xs → E ys → E (xs ++ ys)
  pub related : (xs : Tokens) → E xs → (us : Tokens) × K us xs
  pub of_none : (us : Tokens) → K us [] → us ≡ []
  pub of_single : (us : Tokens) (t : Token) → P t.kind → K us (t ∷ []) → (u : Token) × (us ≡ u ∷ []) × (u.kind ≡ kind_by n t.kind)
  pub parted : (us xs ys : Tokens) → E xs → K us (xs ++ ys) → CutBy K us xs ys

-- ---- how values are related

abbrev pub Any : {A B : Type 0} → A → B → Type 0
Any a b = Unit {0}

abbrev pub NameBy : (Name → Name) → Word → Word → Type 0
NameBy n x y = n x.name ≡ y.name

abbrev pub SameName : Word → Word → Type 0
SameName x y = x.name ≡ y.name

abbrev pub SameValue : ℕ × ℕ → ℕ × ℕ → Type 0
SameValue x y = x.0 ≡ y.0

abbrev pub Maybe : {A B : Type 0} → (A → B → Type 0) → Option A → Option B → Type 0
Maybe R None None = Unit {0}
Maybe R (Some x) (Some y) = R x y
Maybe R _ _ = ⊥
