-- No two tokens stand at one offset where their offsets rise.
use Rattle.std.proofs.Common.{◌≡◌, ◌<◌, ℕ, [], ◌∷◌, map, false, refl, arith}
use Rattle.std.specs.List.{list_any}
use Rattle.std.specs.Prelude.{nat_eq}
use Rattle.std.proofs.lemmas.Bool.{or_from}
use Rattle.smv_core.specs.declared.token.Token.{Token}
use Rattle.smv_core.specs.Notation.{Tokens}
use Rattle.smv_core.specs.Spelling.{place_of_rest}
use Rattle.law_grammar.specs.Laws.{Rise}
use Rattle.law_fresh_monitors.specs.Spots.{NoneTwice}

later : (end at : ℕ) (ts : Tokens) → Rise end ts → at < place_of_rest end ts → list_any (nat_eq at) (map (λ (t : Token). t.at) ts) ≡ false
later end at [] rise l = refl
later end at (t ∷ ts) rise l =
    let e : nat_eq at t.at ≡ false = grind arith in
    let k = rise.0 in
    or_from (nat_eq at t.at) (list_any (nat_eq at) (map (λ (u : Token). u.at) ts)) e (later end at ts rise.1 (omega (arith, l, k)))

pub once : (end : ℕ) (ts : Tokens) → Rise end ts → NoneTwice (map (λ (t : Token). t.at) ts)
once end [] rise = tt
once end (t ∷ ts) rise = (later end t.at ts rise.1 rise.0, once end ts rise.1)
