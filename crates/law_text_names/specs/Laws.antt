-- The laws: what the crate's public functions say.
use Rattle.std.specs.Prelude.{◌≡◌, ℕ, List, Some, Ok, false}
use Rattle.std.specs.List.{AllByRecursion, list_any}
use Rattle.std.specs.Str.{bytes_eq}
use Rattle.smv_core.specs.Values.{Name}
use Rattle.smv_core.specs.declared.token.Token.{Token}
use Rattle.smv_core.specs.declared.tree.Word.{Word}
use Rattle.smv_core.specs.declared.tree.Top.{Top}
use Rattle.smv_core.specs.declared.tree.Top.TheVariants.{SetType, Alias, Module}
use Rattle.smv_core.specs.declared.tree.Text.{Text}
use Rattle.smv_core.specs.Notation.{Tokens}
use Rattle.smv_core.specs.Spelling.{Spells}
use Rattle.smv_lex.specs.Lexing.{lexed}
use Rattle.law_strengthened_claims.specs.Renaming.{is_name, IsName}
use Rattle.law_strengthened_texts.specs.Stronger.{Found, induction}

-- the name that a top declares
abbrev pub word_of_top : Top → Word
word_of_top (SetType word ordered span at) = word
word_of_top (Alias word of at) = word
word_of_top (Module word formals body at) = word

-- no top has this name
abbrev pub NamesNoTop : Name → List Top → Type 0
NamesNoTop name tops = AllByRecursion (λ top. bytes_eq (word_of_top top).name name ≡ false) tops

-- a name that is no token of a text is that of no top
abbrev pub OtherNamesNoTop : Type 0
OtherNamesNoTop = (n : ℕ) (ts : Tokens) (x : Text) (name : Name) → Spells n ts x → list_any (λ (t : Token). is_name name t.kind) ts ≡ false → NamesNoTop name x.tops

-- the variable and the ordset of an induction are read as names
abbrev pub NamesAreRead : Type 0
NamesAreRead = (n : ℕ) (text : List ℕ) (ts : Tokens) (x : Text) (name var : Name) (c : Found) (set : Name) → lexed text ≡ Ok ts → Spells n ts x → induction x.tops name var ≡ Some (c, set) → IsName var × IsName set
