-- Written tokens are read, from any offset.
use Rattle.std.proofs.Common.{◌≡◌, ℕ, ◌+◌, ◌<◌, List, [], ◌∷◌, ◌++◌, length, map, drop, cond, Bool, true, false, Ok, refl, ap, ◌∙◌, arith}
use Rattle.std.proofs.Math.Seq.{drop-append_seam}
use Rattle.smv_core.specs.declared.token.Token.{Token}
use Rattle.smv_core.specs.declared.token.TokenKind.{TokenKind}
use Rattle.smv_core.specs.Notation.{same_kind}
use Rattle.smv_core.specs.Signs.{semicolon}
use Rattle.smv_lex.specs.declared.front.Front.TheVariants.{Passed, Whole}
use Rattle.smv_lex.specs.Lexing.{front_of, lexed_from, with_token}
use Rattle.smv_lex.proofs.Fronts.{token-some}
use Rattle.smv_lex.proofs.Lexing.{from-end, from-passed, from-token}
use Rattle.smv_print.specs.Written.{Kinds, bytes_of, gap, joined}
use Rattle.law_print_and_parse.specs.Readable.{IsReadable, AreReadable}
use Rattle.law_print_and_parse.proofs.Fronts.{written_front, whole, stands}

-- a token that stands at the front is read
token : (text : List ℕ) (at n : ℕ) (kind : TokenKind) → 0 < length text → front_of text ≡ Whole kind n →
    lexed_from at 0 text ≡ with_token (record { kind = kind; at = at }) (lexed_from (at + n) 0 (drop n text))
token [] at n kind some is = absurd (omega (arith, some))
token (b ∷ bytes) at n kind some is = from-token b bytes at n kind is (token-some b bytes n kind is)

some-bytes : (bytes : List ℕ) (b : ℕ) (rest : List ℕ) → 0 < length (bytes ++ b ∷ rest)
some-bytes [] b rest = omega arith
some-bytes (a ∷ bytes) b rest = omega arith

module _ (k : TokenKind) (at : ℕ) (rest : List ℕ) (tokens : List Token) where
  -- the offset of what comes behind the blank
  abbrev pub behind : ℕ
  behind = at + length (bytes_of k) + 1

  abbrev IsReadBefore : ℕ → Type 0
  IsReadBefore blank = lexed_from at 0 (bytes_of k ++ blank ∷ rest) ≡ Ok (record { kind = k; at = at } ∷ tokens)

  -- a token and the blank behind it are read, and then the rest
  before : (blank : ℕ) → written_front blank k rest ≡ whole k rest → front_of (blank ∷ rest) ≡ Passed 1 → lexed_from behind 0 rest ≡ Ok tokens → IsReadBefore blank
  before blank is passed more =
      let n = length (bytes_of k) in
      let text = bytes_of k ++ blank ∷ rest in
      token text at n k (some-bytes (bytes_of k) blank rest) is
      ∙ ap (λ bytes. with_token (record { kind = k; at = at }) (lexed_from (at + n) 0 bytes)) (drop-append_seam (bytes_of k) (blank ∷ rest))
      ∙ ap (with_token (record { kind = k; at = at })) (from-passed blank rest (at + n) 1 passed (omega arith) ∙ more)

  both : IsReadable k → lexed_from behind 0 rest ≡ Ok tokens → IsReadBefore 10 × IsReadBefore 32
  unfolding front_of
  both readable more = (before 10 (stands k readable rest).0 refl more, before 32 (stands k readable rest).1 refl more)

  pub before-line : IsReadable k → lexed_from behind 0 rest ≡ Ok tokens → lexed_from at 0 (bytes_of k ++ 10 ∷ rest) ≡ Ok (record { kind = k; at = at } ∷ tokens)
  before-line readable more = (both readable more).0

  pub before-gap : IsReadable k → lexed_from behind 0 rest ≡ Ok tokens → lexed_from at 0 (bytes_of k ++ gap k ∷ rest) ≡ Ok (record { kind = k; at = at } ∷ tokens)
  before-gap readable more = either (same_kind k semicolon) (both readable more)
    where
      either : (r : Bool) → IsReadBefore 10 × IsReadBefore 32 → IsReadBefore (cond r 10 32)
      either true read = read.0
      either false read = read.1

-- the bytes from an offset on are read as these tokens
pub record Reads (at : ℕ) (ks : Kinds) : Type 0 where
  pub tokens : List Token
  pub read : lexed_from at 0 (joined ks) ≡ Ok tokens
  pub same : map (λ token. token.kind) tokens ≡ ks

pub reads : (at : ℕ) (ks : Kinds) → AreReadable ks → Reads at ks
reads at [] readable = record { tokens = []; read = from-end at; same = refl }
reads at (k ∷ []) readable = record {
  tokens = record { kind = k; at = at } ∷ [];
  read = before-line k at [] [] readable.0 (from-end _);
  same = refl;
}
reads at (k ∷ l ∷ more) readable =
    let rest = reads (at + length (bytes_of k) + 1) (l ∷ more) readable.1 in
    record {
      tokens = record { kind = k; at = at } ∷ rest.tokens;
      read = before-gap k at (joined (l ∷ more)) rest.tokens readable.0 rest.read;
      same = ap (λ ks. k ∷ ks) rest.same;
    }
