-- The laws: what the crate's public functions say.
use Rattle.std.specs.Prelude.{◌≡◌, ◌↔◌, ◌<◌, ◌+◌, ◌^◌, ℕ, List, [], ◌∷◌, map, flat_map, length, Ok, false}
use Rattle.std.specs.Str.{bytes_eq}
use Rattle.std.specs.List.{AllByRecursion, list_any}
use Rattle.smv_core.specs.Values.{Name}
use Rattle.smv_core.specs.FlatOrder.{modules}
use Rattle.smv_core.specs.Sound.{IsSound}
use Rattle.smv_core.specs.Notation.{Tokens}
use Rattle.smv_core.specs.declared.token.Token.{Token}
use Rattle.smv_core.specs.declared.token.TokenKind.{TokenKind}
use Rattle.smv_core.specs.declared.token.TokenKind.TheVariants.{Ident}
use Rattle.smv_lex.specs.Lexing.{lexed}
use Rattle.law_formulas.specs.Formulas.{FormulaText, IsSoundOverTimes}
use Rattle.law_formulas.specs.Monitors.{monitors_of, names_around, translated}
use Rattle.law_formula_trees.specs.Behind.{AreApart}
use Rattle.law_formula_trees.specs.Placed.{AreFlat}
use Rattle.law_fresh_monitors.specs.Names.{IsOldText}
use Rattle.law_fresh_monitors.specs.Spots.{spots, NoneTwice}
use Rattle.law_formula_texts.specs.Spelled.{SpellsFormulas}

-- the name that a token is, if it is one
abbrev pub name_in : TokenKind → List Name
name_in (Ident bytes) = bytes ∷ []
name_in _ = []

-- the names among the tokens
abbrev pub names_of : Tokens → List Name
names_of ts = flat_map (λ (t : Token). name_in t.kind) ts

-- a name that is no token stands nowhere in the text that is spelled; and no instance stands inside a `forall` or braces
abbrev pub OtherNamesAreNowhere : Type 0
OtherNamesAreNowhere = (n : ℕ) (ts : Tokens) (ft : FormulaText) (names : List Name) → SpellsFormulas n ts ft → AllByRecursion (λ name. list_any (bytes_eq name) (names_of ts) ≡ false) names → IsOldText names ft × AreFlat (modules ft.text.tops)

-- no two formulas stand at one offset where no two tokens do
abbrev pub FormulasStandOnce : Type 0
FormulasStandOnce = (n : ℕ) (ts : Tokens) (ft : FormulaText) → SpellsFormulas n ts ft → NoneTwice (map (λ (t : Token). t.at) ts) → NoneTwice (map (λ spot. spot.0) (spots ft))

-- The theorem: a text that is spelled with its formulas, by tokens of which no two stand at one offset, is sound over times exactly where its translation is sound; no two binders around a formula have the same name.
abbrev pub SpelledIsExact : Type 0
SpelledIsExact = (n : ℕ) (ts : Tokens) (ft : FormulaText) → SpellsFormulas n ts ft → NoneTwice (map (λ (t : Token). t.at) ts) → monitors_of ft.formulas + 1 + length ts < 2 ^ 64 → AllByRecursion (λ spot. AreApart (names_around spot.1)) (spots ft) →
    IsSoundOverTimes ft ↔ IsSound (translated (names_of ts) ft)

-- The theorem for texts that are read: one whose bytes are read as tokens that spell it is sound over times exactly where its translation is sound.
abbrev pub ReadIsExact : Type 0
ReadIsExact = (text : List ℕ) (n : ℕ) (ts : Tokens) (ft : FormulaText) → lexed text ≡ Ok ts → SpellsFormulas n ts ft → length text < 2 ^ 32 → monitors_of ft.formulas < 2 ^ 32 → AllByRecursion (λ spot. AreApart (names_around spot.1)) (spots ft) →
    IsSoundOverTimes ft ↔ IsSound (translated (names_of ts) ft)
