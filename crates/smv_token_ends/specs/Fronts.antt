-- Where tokens stand in a text.
use Rattle.std.specs.Prelude.{◌≡◌, ℕ, List, drop}
use Rattle.smv_core.specs.declared.token.Token.{Token}
use Rattle.smv_core.specs.declared.token.TokenKind.{TokenKind}
use Rattle.smv_lex.specs.declared.front.Front.TheVariants.{Whole}
use Rattle.smv_lex.specs.Lexing.{front_of}

-- a token stands at the front
abbrev pub IsToken : List ℕ → Type 0
IsToken bytes = (kind : TokenKind) × (n : ℕ) × (front_of bytes ≡ Whole kind n)

-- one stands where this token does
abbrev pub IsTokenAt : List ℕ → Token → Type 0
IsTokenAt text t = IsToken (drop t.at text)
