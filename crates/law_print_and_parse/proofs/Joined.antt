-- The laws of the printed bytes and of the canonical tokens, joined.
use Rattle.std.proofs.Common.{◌≡◌, ℕ, List, [], ◌∷◌, length, Ok, subst}
use Rattle.smv_core.specs.Notation.{Tokens}
use Rattle.smv_lex.specs.Lexing.{lexed}
use Rattle.smv_parse.proofs.Rising.{FromOn, from-start}
use Rattle.smv_parse.specs.Spelling.{levels}
use Rattle.smv_print.specs.Canonical.{canonical}
use Rattle.law_grammar.specs.Laws as rules
use Rattle.law_grammar.specs.Laws.{Rise}
use Rattle.law_print_and_parse.specs.SpellingLaws.{IsSameText, IsPrintedAlike}
use Rattle.law_print_and_parse.specs.TokenLaws.{IsCanonicalRead}
use Rattle.law_print_and_parse.specs.Again.{IsPrintedAgain, IsOnePrint}

-- the two crates of laws say the same by "rise"
same-rise : (end : ℕ) (ts : Tokens) → rules.Rise end ts → Rise end ts
same-rise end [] h = tt
same-rise end (t ∷ ts) h = (h.0, same-rise end ts h.1)

rising : (text : List ℕ) (tokens : Tokens) → lexed text ≡ Ok tokens → Rise (length text) tokens
rising text tokens is = same-rise (length text) tokens (subst (FromOn (length text) 0) is (from-start text)).0

pub again : IsCanonicalRead → IsSameText → IsPrintedAlike → IsPrintedAgain
again read same alike text tree h =
    let r = read text h.0 levels tree h.1 h.2 in
    let s = same levels (length (canonical tree)) h.0 r.0 tree h.2 r.2 (rising (canonical tree) r.0 r.1) in
    (s.0, (r.0, r.1, s.1), s.2, alike levels levels h.0 r.0 tree s.0 h.2 s.1 s.2)

pub one : IsPrintedAlike → IsOnePrint
one alike text other tree others h k same = alike levels levels h.0 k.0 tree others h.2 k.2 same
