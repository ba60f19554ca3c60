use Rattle.std.proofs.Common.{◌≡◌, ℕ, ◌+◌, ◌<◌, List, [], ◌∷◌, length, drop, arith, Err}
use Rattle.smv_core.specs.declared.token.TokenKind.{TokenKind}
use Rattle.smv_lex.specs.declared.front.Front.TheVariants.{Passed, Whole, Broken}
use Rattle.smv_lex.specs.Lexing.{front_of, lexed_from, with_token}
use Rattle.smv_lex.proofs.Fronts.{passed-some, token-some}
use Rattle.smv_lex.proofs.Lexing.{from-end, from-passed, from-token, from-fault}
use Rattle.smv_lex.proofs.laws.place_by_place.Goals as goal

passed : (text : List ℕ) (at n : ℕ) → 0 < length text → front_of text ≡ Passed n → lexed_from at 0 text ≡ lexed_from (at + n) 0 (drop n text)
passed [] at n some is = absurd (omega (arith, some))
passed (b ∷ bytes) at n some is = from-passed b bytes at n is (passed-some b bytes n is)

token : (text : List ℕ) (at n : ℕ) (kind : TokenKind) → 0 < length text → front_of text ≡ Whole kind n →
    lexed_from at 0 text ≡ with_token (record { kind = kind; at = at }) (lexed_from (at + n) 0 (drop n text))
token [] at n kind some is = absurd (omega (arith, some))
token (b ∷ bytes) at n kind some is = from-token b bytes at n kind is (token-some b bytes n kind is)

fault : (text : List ℕ) (at number : ℕ) → 0 < length text → front_of text ≡ Broken number → lexed_from at 0 text ≡ Err (record { number = number; at = at })
fault [] at number some is = absurd (omega (arith, some))
fault (b ∷ bytes) at number some is = from-fault b bytes at number is

pub returns : goal.returns
returns c = record { end = from-end; passed = passed; token = token; fault = fault }
