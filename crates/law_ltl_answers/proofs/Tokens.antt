-- The tokens of a text that is read: no more than its bytes, no two at one offset, and no more names than tokens.
use Rattle.std.proofs.Common.{◌≡◌, ◌≤◌, ◌+◌, ℕ, suc, List, [], ◌∷◌, ◌++◌, map, length, nat_eq, false, Ok, refl, arith}
use Rattle.std.specs.List.{list_any}
use Rattle.std.proofs.lemmas.Bool.{or_from}
use Rattle.law_lists.proofs.Numbers.{nat_eq-below}
use Rattle.smv_core.specs.declared.token.Token.{Token}
use Rattle.smv_core.specs.declared.token.TokenKind.{TokenKind}
use Rattle.smv_core.specs.declared.token.TokenKind.TheVariants.{Ident, Number, Sign, Reserved}
use Rattle.smv_core.specs.Notation.{Tokens}
use Rattle.smv_lex.specs.Lexing.{lexed}
use Rattle.law_lexed_parts.proofs.Parted.{From, Rising, Under, rising, within-text}
use Rattle.law_fresh_monitors.specs.Spots.{NoneTwice}
use Rattle.law_formula_texts.specs.Laws.{name_in, names_of}

other-offsets : (at : ℕ) (ts : Tokens) → From (at + 1) ts → list_any (nat_eq at) (map (λ (t : Token). t.at) ts) ≡ false
other-offsets at [] h = refl
other-offsets at (t ∷ ts) h = let low = h.0 in or_from (nat_eq at t.at) (list_any (nat_eq at) (map (λ (u : Token). u.at) ts)) (nat_eq-below at t.at (omega (arith, low))) (other-offsets at ts h.1)

each-once : (ts : Tokens) → Rising ts → NoneTwice (map (λ (t : Token). t.at) ts)
each-once [] h = tt
each-once (t ∷ ts) h = (other-offsets t.at ts h.0, each-once ts h.1)

pub offsets-once : (text : List ℕ) (ts : Tokens) → lexed text ≡ Ok ts → NoneTwice (map (λ (t : Token). t.at) ts)
offsets-once text ts read = each-once ts (rising 0 0 text ts read)

few-from : (from to : ℕ) (ts : Tokens) → from ≤ to → Rising ts → From from ts → Under to ts → length ts + from ≤ to
few-from from to [] le rises low high = omega (arith, le)
few-from from to (t ∷ ts) le rises low high =
    let a = low.0 in
    let b = high.0 in
    let rest = few-from (t.at + 1) to ts (omega (arith, b)) rises.1 rises.0 high.1 in
    omega (arith, a, b, rest)

from-zero : (ts : Tokens) → From 0 ts
from-zero [] = tt
from-zero (t ∷ ts) = (omega arith, from-zero ts)

pub few-tokens : (text : List ℕ) (ts : Tokens) → lexed text ≡ Ok ts → length ts ≤ length text
few-tokens text ts read =
    let h = few-from 0 (0 + length text) ts (omega arith) (rising 0 0 text ts read) (from-zero ts) (within-text 0 0 text ts read) in
    omega (arith, h)

pub few-names : (ts : Tokens) → length (names_of ts) ≤ length ts
few-names [] = omega arith
few-names (t ∷ ts) = by_kind t.kind (few-names ts)
  where
    by_kind : (k : TokenKind) → length (names_of ts) ≤ length ts → length (name_in k ++ names_of ts) ≤ suc (length ts)
    by_kind (Ident bytes) h = omega (arith, h)
    by_kind (Number value) h = omega (arith, h)
    by_kind (Sign i) h = omega (arith, h)
    by_kind (Reserved i) h = omega (arith, h)
