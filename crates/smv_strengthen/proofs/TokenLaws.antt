-- The tokens of a claim's expression stand in the text.
use Rattle.std.proofs.Common.{◌≡◌, ◌-◌, ◌==◌, ℕ, List, [], ◌∷◌, length, take, drop, take_while, Bool, true, false, not, cond, if◌then◌else◌, Ok, refl, ap, ◌∙◌, arith}
use Rattle.std.specs.List.{AllByRecursion}
use Rattle.std.proofs.lemmas.List.{take_all, length-drop}
use Rattle.std.proofs.lemmas.List.Sums.{take_while-cons}
use Rattle.smv_core.specs.declared.token.Token.{Token}
use Rattle.smv_core.specs.Signs.{semicolon, word_G}
use Rattle.smv_core.specs.Notation.{Tokens, same_kind}
use Rattle.smv_lex.specs.Lexing.{lexed}
use Rattle.law_exchanged.specs.Claims.{from_first, body_tokens}
use Rattle.smv_token_ends.specs.Fronts.{IsTokenAt}
use Rattle.smv_token_ends.proofs.Standing.{tokens-stand}

-- behind those that fail the test comes the first that passes
pub from-first-is : {X : Type 0} (test : X → Bool) (xs : List X) → drop (length (take_while (λ x. not (test x)) xs)) xs ≡ from_first test xs
from-first-is test [] = refl
from-first-is test (x ∷ xs) = ap (λ l. drop (length l) (x ∷ xs)) (take_while-cons (λ y. not (test y)) x xs) ∙ by_test (test x) (from-first-is test xs)
  where
    by_test : (b : Bool) → drop (length (take_while (λ y. not (test y)) xs)) xs ≡ from_first test xs →
        drop (length (cond (not b) (x ∷ take_while (λ y. not (test y)) xs) [])) (x ∷ xs) ≡ (if b then x ∷ xs else from_first test xs)
    by_test true h = refl
    by_test false h = h

-- what a slice from an index on holds
pub rest-is : {X : Type 0} (n : ℕ) (xs : List X) → take (length xs - n) (drop n xs) ≡ drop n xs
rest-is n xs = take_all (length xs - n) (drop n xs) (omega (arith, length-drop n xs))

module _ {X : Type 0} (P : X → Type 0) (test : X → Bool) where
  each-from : (xs : List X) → AllByRecursion P xs → AllByRecursion P (from_first test xs)
  each-from [] h = tt
  each-from (x ∷ xs) h = by_test (test x) (each-from xs h.1)
    where
      by_test : (b : Bool) → AllByRecursion P (from_first test xs) → AllByRecursion P (if b then x ∷ xs else from_first test xs)
      by_test true k = h
      by_test false k = k

  each-taken : (xs : List X) → AllByRecursion P xs → AllByRecursion P (take_while test xs)
  each-taken [] h = tt
  each-taken (x ∷ xs) h = rw take_while-cons (by_test (test x) (each-taken xs h.1))
    where
      by_test : (b : Bool) → AllByRecursion P (take_while test xs) → AllByRecursion P (cond b (x ∷ take_while test xs) [])
      by_test true k = (h.0, k)
      by_test false k = tt

  each-behind_one : (xs : List X) → AllByRecursion P xs → AllByRecursion P (drop 1 xs)
  each-behind_one [] h = tt
  each-behind_one (x ∷ xs) h = h.1

-- so does each of a claim's expression
pub body-stands : (text : List ℕ) (ts : Tokens) (at : ℕ) → lexed text ≡ Ok ts → AllByRecursion (IsTokenAt text) (body_tokens at ts)
body-stands text ts at e =
    let is_at : Token → Bool = λ t. t.at == at in
    let is_G : Token → Bool = λ t. same_kind t.kind word_G in
    let within : Token → Bool = λ t. not (same_kind t.kind semicolon) in
    let named = from_first is_at ts in
    let headed = from_first is_G named in
    each-taken (IsTokenAt text) within (drop 1 headed) (each-behind_one (IsTokenAt text) is_G headed (each-from (IsTokenAt text) is_G named (each-from (IsTokenAt text) is_at ts (tokens-stand text ts e))))
