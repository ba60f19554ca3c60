-- The tokens of a text stand within it.
use Rattle.std.proofs.Common.{◌≡◌, ◌≤◌, ℕ, List, [], ◌∷◌, length, Ok, subst, arith}
use Rattle.std.specs.List.{AllByRecursion}
use Rattle.smv_core.specs.declared.token.Token.{Token}
use Rattle.smv_core.specs.Spelling.{place_of_rest}
use Rattle.smv_lex.specs.Lexing.{lexed}
use Rattle.law_grammar.specs.Laws.{Rise}
use Rattle.smv_parse.proofs.Rising.{FromOn, from-start}

rest-within : (n : ℕ) (ts : List Token) → Rise n ts → place_of_rest n ts ≤ n
rest-within n [] h = omega arith
rest-within n (t ∷ ts) h = let one = h.0 in let rest = rest-within n ts h.1 in omega (arith, one, rest)

rising-within : (n : ℕ) (ts : List Token) → Rise n ts → AllByRecursion (λ (t : Token). t.at ≤ n) ts
rising-within n [] h = tt
rising-within n (t ∷ ts) h = ((let one = h.0 in let rest = rest-within n ts h.1 in omega (arith, one, rest)), rising-within n ts h.1)

pub tokens-within : (text : List ℕ) (ts : List Token) → lexed text ≡ Ok ts → AllByRecursion (λ (t : Token). t.at ≤ length text) ts
tokens-within text ts e =
    let on : FromOn (length text) 0 (Ok ts) = subst (FromOn (length text) 0) e (from-start text) in
    rising-within (length text) ts on.0
