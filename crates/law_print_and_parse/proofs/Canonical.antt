-- The canonical tokens of a tree, and their bytes.
use Rattle.std.proofs.Common.{◌≡◌, ℕ, List, [], map, Ok}
use Rattle.smv_core.specs.declared.token.Token.{Token}
use Rattle.smv_core.specs.declared.tree.Text.{Text}
use Rattle.smv_core.specs.Notation.{Tokens}
use Rattle.smv_core.specs.Spelling.{Spells}
use Rattle.smv_lex.specs.Lexing.{lexed}
use Rattle.smv_print.specs.Canonical.{top_kinds, text_kinds, canonical}
use Rattle.law_print_and_parse.specs.Readable.{AreReadable}
use Rattle.law_print_and_parse.proofs.Good.{good-flat}
use Rattle.law_print_and_parse.proofs.Walk.{keeps-text}
use Rattle.law_print_and_parse.proofs.Reading.{reads}
use Rattle.law_print_and_parse.proofs.Lexed.{tokens-readable}

pub spelled-readable : (n : ℕ) (tokens : Tokens) (text : Text) → Spells n tokens text → AreReadable (map (λ token. token.kind) tokens) → AreReadable (text_kinds text)
unfolding Spells
spelled-readable n tokens text spelled readable = (good-flat top_kinds text.tops ((keeps-text (λ at. 0) n).keeps tokens text.tops [] spelled readable).0).readable

pub canonical-read : (bytes : List ℕ) (tokens : Tokens) (n : ℕ) (text : Text) → lexed bytes ≡ Ok tokens → Spells n tokens text →
    (us : List Token) × (lexed (canonical text) ≡ Ok us) × (map (λ token. token.kind) us ≡ text_kinds text)
unfolding canonical
canonical-read bytes tokens n text read spelled =
    let all = reads 0 (text_kinds text) (spelled-readable n tokens text spelled (tokens-readable bytes tokens read)) in (all.tokens, all.read, all.same)
