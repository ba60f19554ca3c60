-- The law: what the crate's public function says.
use Rattle.std.specs.Prelude.{◌≡◌, ◌+◌, ℕ, List, Ok}
use Rattle.std.specs.List.{AllByRecursion}
use Rattle.smv_core.specs.Values.{Name}
use Rattle.smv_core.specs.declared.tree.Text.{Text}
use Rattle.smv_core.specs.Notation.{Tokens}
use Rattle.smv_core.specs.Spelling.{Spells}
use Rattle.smv_lex.specs.Lexing.{lexed}
use Rattle.law_places.specs.Placeless.{placeless_text}
use Rattle.law_spelled_alike.specs.Local.{kinds_of}
use Rattle.law_strengthened_claims.specs.Renaming.{IsName}
use Rattle.law_formulas.specs.Formulas.{FormulaText}
use Rattle.law_formulas.specs.Monitors.{watched, translation}
use Rattle.law_formula_texts.specs.Spelled.{SpellsFormulas}
use Rattle.law_translated_texts.specs.Translation.{edits}
use Rattle.law_translated_items.specs.Segments.{Segment, old, kinds, all_edits, IsGood}

-- The tokens of a text are these segments, with the edits of the translation by these names; other tokens of the kinds of what comes in their place spell the translated tree, places aside, within seven more levels.
pub record IsExchanged (n : ℕ) (text : List ℕ) (ts : Tokens) (ft : FormulaText) (names : List Name) (layer : Name) : Type 0 where
  pub segments : List Segment
  pub split : ts ≡ old segments
  pub edited : all_edits text ts layer segments ≡ edits text ts (watched ft.formulas names) layer ft.text.tops
  pub good : AllByRecursion (IsGood text ts layer) segments
  pub again : (us : Tokens) → kinds_of us ≡ kinds text ts layer segments → (new : Text) × Spells (7 + n) us new × (placeless_text (translation (watched ft.formulas names) layer ft.text) ≡ placeless_text new)

abbrev pub TokensAreTranslated : Type 0
TokensAreTranslated = (n : ℕ) (text : List ℕ) (ts : Tokens) (ft : FormulaText) (names : List Name) (layer : Name) → lexed text ≡ Ok ts → SpellsFormulas n ts ft → AllByRecursion IsName names → IsName layer →
    IsExchanged n text ts ft names layer
