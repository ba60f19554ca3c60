-- The theorem for texts that are read: no two of their tokens stand at one offset, and there are no more tokens than bytes.
use Rattle.std.proofs.Common.{◌≡◌, ◌≤◌, ◌+◌, ℕ, [], ◌∷◌, map, length, false, refl, arith}
use Rattle.std.specs.List.{list_any}
use Rattle.std.specs.Prelude.{nat_eq}
use Rattle.std.proofs.lemmas.Bool.{or_from}
use Rattle.law_lists.proofs.Numbers.{nat_eq-below}
use Rattle.smv_core.specs.declared.token.Token.{Token}
use Rattle.smv_core.specs.Notation.{Tokens}
use Rattle.law_lexed_parts.proofs.Parted.{From, Rising, Under, rising, within-text}
use Rattle.law_fresh_monitors.specs.Spots.{NoneTwice}
use Rattle.law_formula_texts.specs.Laws.{ReadIsExact}
use Rattle.law_formula_texts.proofs.Whole.{spelled-exact}

other-offsets : (at : ℕ) (ts : Tokens) → From (at + 1) ts → list_any (nat_eq at) (map (λ (t : Token). t.at) ts) ≡ false
other-offsets at [] h = refl
other-offsets at (t ∷ ts) h = let low = h.0 in or_from (nat_eq at t.at) (list_any (nat_eq at) (map (λ (u : Token). u.at) ts)) (nat_eq-below at t.at (omega (arith, low))) (other-offsets at ts h.1)

offsets-once : (ts : Tokens) → Rising ts → NoneTwice (map (λ (t : Token). t.at) ts)
offsets-once [] h = tt
offsets-once (t ∷ ts) h = (other-offsets t.at ts h.0, offsets-once ts h.1)

few-tokens : (from to : ℕ) (ts : Tokens) → from ≤ to → Rising ts → From from ts → Under to ts → length ts + from ≤ to
few-tokens from to [] le rises low high = omega (arith, le)
few-tokens from to (t ∷ ts) le rises low high =
    let a = low.0 in
    let b = high.0 in
    let rest = few-tokens (t.at + 1) to ts (omega (arith, b)) rises.1 rises.0 high.1 in
    omega (arith, a, b, rest)

from-zero : (ts : Tokens) → From 0 ts
from-zero [] = tt
from-zero (t ∷ ts) = (omega arith, from-zero ts)

pub read-exact : ReadIsExact
read-exact text n ts ft read spelled short few binders =
    let rises = rising 0 0 text ts read in
    let within = few-tokens 0 (0 + length text) ts (omega arith) rises (from-zero ts) (within-text 0 0 text ts read) in
    spelled-exact n ts ft spelled (offsets-once ts rises) (omega (arith, within, short, few)) binders
