-- Parsers as functions on lists of tokens, and the pieces that they are made of.
use Rattle.std.specs.Prelude.{ℕ, zero, suc, Bool, true, false, ◌&&◌, if◌then◌else◌, List, [], ◌∷◌, length, Option, Some, None, Result, Ok, Err}
use Rattle.smv_core.specs.declared.token.Token.{Token}
use Rattle.smv_core.specs.Notation.{Tokens}

-- Where a parser halts: whether a level too many is opened there, and the tokens from that place on.
pub data Halt : Type 0 where
  Halts : Bool → Tokens → Halt

-- what is read, and the tokens that come after it
abbrev pub Outcome : Type 0 → Type 0
Outcome A = Result (A × Tokens) Halt

abbrev pub Parser : Type 0 → Type 0
Parser A = Tokens → Outcome A

-- ---- one parser after another

abbrev pub and_then : {A B : Type 0} → Outcome A → (A → Parser B) → Outcome B
and_then (Ok p) f = f p.0 p.1
and_then (Err h) f = Err h

abbrev pub bind : {A B : Type 0} → Parser A → (A → Parser B) → Parser B
bind p f ts = and_then (p ts) f

abbrev pub pure : {A : Type 0} → A → Parser A
pure a ts = Ok (a, ts)

-- ---- one token

abbrev pub taken : {A : Type 0} → Option A → Tokens → Tokens → Outcome A
taken None whole ts = Err (Halts false whole)
taken (Some a) whole ts = Ok (a, ts)

-- a token from which a value is read
abbrev pub take : {A : Type 0} → (Token → Option A) → Parser A
take read [] = Err (Halts false [])
take read (t ∷ ts) = taken (read t) (t ∷ ts) ts

-- ---- a level

-- after a token that opens a level, where one is left
abbrev pub when_left : {A : Type 0} → ℕ → Tokens → Parser A → Parser A
when_left zero whole p ts = Err (Halts true whole)
when_left (suc n) whole p ts = p ts

abbrev pub opened : {X A : Type 0} → Option X → ℕ → Tokens → (X → Parser A) → Parser A
opened None n whole p ts = Err (Halts false whole)
opened (Some x) n whole p ts = when_left n whole (p x) ts

-- a token from which a value is read and which opens a level, and what stands in that level
abbrev pub take_open : {X A : Type 0} → (Token → Option X) → ℕ → (X → Parser A) → Parser A
take_open read n p [] = Err (Halts false [])
take_open read n p (t ∷ ts) = opened (read t) n (t ∷ ts) p ts

-- ---- choices

abbrev pub starts : (Token → Bool) → Tokens → Bool
starts test [] = false
starts test (t ∷ ts) = test t

-- the first parser where the next token passes the test, and else the second
abbrev pub fork : {A : Type 0} → (Token → Bool) → Parser A → Parser A → Parser A
fork test p q ts = if starts test ts then p ts else q ts

abbrev pub starts2 : (Token → Bool) → (Token → Bool) → Tokens → Bool
starts2 test1 test2 [] = false
starts2 test1 test2 (t ∷ []) = false
starts2 test1 test2 (t ∷ u ∷ ts) = test1 t && test2 u

-- the first parser where the next two tokens pass the tests, and else the second
abbrev pub fork2 : {A : Type 0} → (Token → Bool) → (Token → Bool) → Parser A → Parser A → Parser A
fork2 test1 test2 p q ts = if starts2 test1 test2 ts then p ts else q ts

-- ---- repetition

-- As long as the next token passes the test, at most so many times.
abbrev pub turns : {A : Type 0} → (Token → Bool) → Parser A → ℕ → Parser (List A)
turns test p zero ts = Ok ([], ts)
turns test p (suc n) ts = if starts test ts then and_then (p ts) (λ a rest. and_then (turns test p n rest) (λ more end. Ok (a ∷ more, end))) else Ok ([], ts)

-- as long as the next token passes the test, where each time takes a token
abbrev pub loop : {A : Type 0} → (Token → Bool) → Parser A → Parser (List A)
loop test p ts = turns test p (length ts) ts
