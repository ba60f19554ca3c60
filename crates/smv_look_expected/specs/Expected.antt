-- What could stand at the place of a fault 5: each name, number, sign and reserved word after which a text can go on.
use Rattle.std.specs.Prelude.{◌≡◌, ℕ, ◌+◌, List, [], ◌∷◌, ◌++◌, codes, map, take}
use Rattle.smv_core.specs.declared.token.TokenKind.{TokenKind}
use Rattle.smv_core.specs.Spellings.{signs, reserved_words}
use Rattle.smv_parse.specs.Spelling.{HasFault}
use Rattle.smv_report.specs.Lines.{line}

-- the text up to a place, and a token behind it, in a line of its own, so that it is parted from what stands before
abbrev pub with_token : List ℕ → ℕ → List ℕ → List ℕ
with_token text at token = take at text ++ 10 ∷ token

-- no text can go on after the token, if it stands there
abbrev pub IsRefused : List ℕ → ℕ → List ℕ → Type 0
IsRefused text at token = HasFault (with_token text at token) 5 (at + 1)

-- a token, by its bytes, and how it is shown
abbrev pub Shown : Type 0
Shown = List ℕ × List ℕ

-- what is tried: a name and a number, of which each stands for all, and each sign and reserved word
abbrev pub spelled : List (TokenKind × List ℕ) → List Shown
spelled list = map (λ (kind, bytes). (bytes, bytes)) list

abbrev pub candidates : List Shown
candidates = (codes "x", codes "NAME") ∷ (codes "0", codes "NUMBER") ∷ spelled signs ++ spelled reserved_words

-- what is written of a token that is tried at a place: nothing where it is refused
pub data IsTold (text : List ℕ) (at : ℕ) : Shown → List ℕ → Type 0 where
  refused : (token shown : List ℕ) → IsRefused text at token → IsTold text at (token, shown) []
  fits : (token shown : List ℕ) → (IsRefused text at token → ⊥) → IsTold text at (token, shown) (32 ∷ shown)

-- and of several, one behind the other
pub data AreTold (text : List ℕ) (at : ℕ) : List Shown → List ℕ → Type 0 where
  none : AreTold text at [] []
  more : {one : Shown} {tried : List Shown} {bytes rest : List ℕ} → IsTold text at one bytes → AreTold text at tried rest → AreTold text at (one ∷ tried) (bytes ++ rest)

-- `  | here may stand: :=`
abbrev pub IsExpected : List ℕ → ℕ → List ℕ → Type 0
IsExpected text at lines = (told : List ℕ) × AreTold text at candidates told × (lines ≡ line (codes "  | here may stand:" ++ told))
