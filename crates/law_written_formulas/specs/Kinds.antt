-- The kinds of the tokens as which pieces are read.
use Rattle.std.specs.Prelude.{ℕ, List, [], flat_map, Ok, Err}
use Rattle.smv_core.specs.declared.token.TokenKind.{TokenKind}
use Rattle.smv_lex.specs.Lexing.{Lexed, lexed}
use Rattle.law_spelled_alike.specs.Local.{kinds_of}
use Rattle.law_translated_texts.specs.Phrases.{Pieces}

abbrev pub kinds_read : Lexed → List TokenKind
kinds_read (Ok ts) = kinds_of ts
kinds_read (Err f) = []

-- those of the tokens of some bytes
abbrev pub kinds_in : List ℕ → List TokenKind
kinds_in bytes = kinds_read (lexed bytes)

-- those of the tokens of pieces, one behind the other
abbrev pub kinds_of_pieces : Pieces → List TokenKind
kinds_of_pieces ps = flat_map kinds_in ps
