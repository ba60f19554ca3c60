-- When a parser reads exactly what a rule spells, and halts exactly where nothing goes on.
use Rattle.std.specs.Prelude.{◌≡◌, ℕ, zero, ◌<◌, ◌≤◌, ◌+◌, Bool, true, false, [], ◌∷◌, ◌++◌, Option, Some, None, Ok, Err, ◌⊎◌}
use Rattle.smv_core.specs.declared.token.Token.{Token}
use Rattle.smv_core.specs.Notation.{Tokens, Rule}
use Rattle.law_grammar.specs.Parsing.{Halts, Outcome, Parser}

-- a rule at each floor and number of levels
abbrev pub Levels : Type 0 → Type 1
Levels A = (ℕ → ℕ) → ℕ → Rule A

abbrev pub first : Tokens → Option Token
first [] = None
first (t ∷ ts) = Some t

-- n levels are left above the floor, wherever a token stands
abbrev pub Above : ℕ → (ℕ → ℕ) → ℕ → Type 0
Above n floor m = (at : ℕ) → floor at + n ≤ m

-- Some tokens spell a value. They stand at a place where no level is kept back, and want so many levels.
pub record Finishes {A : Type 0} (F : Levels A) (place : ℕ) : Type 0 where
  pub more : Tokens
  pub value : A
  pub enough : ℕ
  pub spelled : (floor : ℕ → ℕ) (m : ℕ) → floor place ≡ zero → enough ≤ m → (r : Tokens) → F floor m (more ++ r) value r

-- Some tokens after these, all at the place, complete a value, where these open no more than n levels.
pub record Completes {A : Type 0} (F : Levels A) (n place : ℕ) (ts : Tokens) : Type 0 where
  pub more : Tokens
  pub value : A
  pub enough : ℕ
  pub spelled : (floor : ℕ → ℕ) (m : ℕ) → Above n floor m → floor place ≡ zero → enough ≤ m → (r : Tokens) → F floor m ((ts ++ more) ++ r) value r

-- The parser reads this value: it is spelled so, within n levels and whatever follows, and it is read so whatever stands behind the next token.
pub record Reads {A : Type 0} (F : Levels A) (n : ℕ) (p : Parser A) (ts : Tokens) (a : A) (rest : Tokens) : Type 0 where
  pub front : Tokens
  pub split : ts ≡ front ++ rest
  pub spelled : (floor : ℕ → ℕ) (m : ℕ) → Above n floor m → (r : Tokens) → F floor m (front ++ r) a r
  pub again : (other : Tokens) → first other ≡ first rest → p (front ++ other) ≡ Ok (a, other)

-- the token at which a level too many is opened can itself go on
abbrev pub kept : Bool → Tokens → Tokens
kept true (t ∷ ts) = t ∷ []
kept true [] = []
kept false ts = []

-- a level too many is opened by a token
abbrev pub AtToken : Bool → Tokens → Type 0
AtToken true [] = ⊥
AtToken true (t ∷ ts) = Unit {0}
AtToken false ts = Unit {0}

-- where the halt is for a level too many, the place is that of the token that opens it
abbrev pub IsPlaceOf : ℕ → Bool → Tokens → Type 0
IsPlaceOf place true [] = ⊥
IsPlaceOf place true (t ∷ ts) = t.at ≡ place
IsPlaceOf place false ts = Unit {0}

-- The parser halts at these tokens: those before it can go on, and it halts so whatever stands behind the token.
pub record Stuck {A : Type 0} (F : Levels A) (n : ℕ) (p : Parser A) (deep : Bool) (ts bad : Tokens) : Type 0 where
  pub front : Tokens
  pub split : ts ≡ front ++ bad
  pub at_token : AtToken deep bad
  pub goes_on : (place : ℕ) → IsPlaceOf place deep bad → Completes F n place (front ++ kept deep bad)
  pub again : (other : Tokens) → first other ≡ first bad → p (front ++ other) ≡ Err (Halts deep other)

-- The parser halts at a token that opens a level too many, where with m levels the floor forbids to open it.
pub record IsDeep {A : Type 0} (n : ℕ) (floor : ℕ → ℕ) (m : ℕ) (o : Outcome A) : Type 0 where
  pub token : Token
  pub rest : Tokens
  pub halts : o ≡ Err (Halts true (token ∷ rest))
  pub forbidden : floor token.at + n < m

-- The parser reads within n levels what the rule spells. A value is followed by a token that stops it.
pub record Law {A : Type 0} (F : Levels A) (n : ℕ) (p : Parser A) (stops : A → Option Token → Bool) : Type 0 where
  pub reads : (ts : Tokens) (a : A) (rest : Tokens) → p ts ≡ Ok (a, rest) → Reads F n p ts a rest
  pub complete : (floor : ℕ → ℕ) (m : ℕ) (ts : Tokens) (a : A) (rest : Tokens) → F floor m ts a rest → stops a (first rest) ≡ true
      → (p ts ≡ Ok (a, rest)) ⊎ IsDeep n floor m (p ts)
  pub halts : (ts : Tokens) (deep : Bool) (bad : Tokens) → p ts ≡ Err (Halts deep bad) → Stuck F n p deep ts bad

-- The rule spells something at each place, and the parser has its law under a condition, such as that a level is left.
pub record Lawful (C : Type 0) {A : Type 0} (F : Levels A) (n : ℕ) (p : Parser A) (stops : A → Option Token → Bool) : Type 0 where
  pub finishes : (place : ℕ) → Finishes F place
  pub law : C → Law F n p stops
