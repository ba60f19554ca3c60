-- The laws in short: what the crate's public functions say.
use Rattle.std.specs.Prelude.{◌≡◌, ℕ, List, map, Ok}
use Rattle.smv_core.specs.declared.tree.Text.{Text}
use Rattle.smv_core.specs.Notation.{Tokens}
use Rattle.smv_core.specs.Spelling.{Spells}
use Rattle.smv_lex.specs.Lexing.{lexed}
use Rattle.smv_print.specs.Written.{Kinds, joined}
use Rattle.smv_print.specs.Canonical.{text_kinds, canonical}
use Rattle.law_print_and_parse.specs.Readable.{AreReadable}

-- tokens without their offsets
abbrev pub kinds_of : Tokens → Kinds
kinds_of tokens = map (λ token. token.kind) tokens

-- The bytes are read by the lexer as exactly these tokens: no two of them grow together, none is split and none is lost in a comment.
abbrev pub AreReadAs : List ℕ → Kinds → Type 0
AreReadAs bytes ks = (tokens : Tokens) × (lexed bytes ≡ Ok tokens) × (kinds_of tokens ≡ ks)

-- what the printer writes for tokens that a text can have is read as these tokens
abbrev pub IsReadAsWritten : Type 0
IsReadAsWritten = (ks : Kinds) → AreReadable ks → AreReadAs (joined ks) ks

-- the lexer reads only tokens that a text can have
abbrev pub ReadsOnlyReadable : Type 0
ReadsOnlyReadable = (bytes : List ℕ) (tokens : Tokens) → lexed bytes ≡ Ok tokens → AreReadable (kinds_of tokens)

-- the canonical tokens of a tree that such tokens spell are such tokens again
abbrev pub IsSpelledReadable : Type 0
IsSpelledReadable = (n : ℕ) (tokens : Tokens) (text : Text) → Spells n tokens text → AreReadable (kinds_of tokens) → AreReadable (text_kinds text)

-- the canonical spelling of the tree of any text is read as the canonical tokens of that tree
abbrev pub IsCanonicalRead : Type 0
IsCanonicalRead = (bytes : List ℕ) (tokens : Tokens) (n : ℕ) (text : Text) → lexed bytes ≡ Ok tokens → Spells n tokens text → AreReadAs (canonical text) (text_kinds text)
