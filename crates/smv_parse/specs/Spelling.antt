-- When a text spells a tree, and the fault of a text that spells none.
use Rattle.std.specs.Prelude.{◌≡◌, ℕ, List, length, Ok, Err}
use Rattle.smv_core.specs.declared.tree.Text.{Text}
use Rattle.smv_core.specs.Notation.{Tokens}
use Rattle.smv_core.specs.Spelling.{Spells, IsUnexpected, IsTooDeep}
use Rattle.smv_lex.specs.Lexing.{lexed}

-- how many levels may be open at one token
abbrev pub levels : ℕ
levels = 64

-- the bytes are tokens, and these spell the tree
abbrev pub SpellsText : List ℕ → Text → Type 0
SpellsText text tree = (tokens : Tokens) × (lexed text ≡ Ok tokens) × Spells levels tokens tree

-- The fault of a text that spells no tree, by its number and its offset: 1 to 4 at the first byte where no token and no comment begins,
-- or else, in tokens, 5 at the first token or end after which no text can go on, or 6 at the first token that opens a level too many.
pub data HasFault : List ℕ → ℕ → ℕ → Type 0 where
  of_bytes : {text : List ℕ} {number at : ℕ} → lexed text ≡ Err (record { number = number; at = at }) → HasFault text number at
  unexpected : {text : List ℕ} {tokens : Tokens} {at : ℕ} → lexed text ≡ Ok tokens → IsUnexpected levels (length text) tokens at → HasFault text 5 at
  too_deep : {text : List ℕ} {tokens : Tokens} {at : ℕ} → lexed text ≡ Ok tokens → IsTooDeep levels tokens at → HasFault text 6 at
