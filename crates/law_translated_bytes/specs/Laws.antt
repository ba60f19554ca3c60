-- The law: what the crate's public function says.
use Rattle.std.specs.Prelude.{◌≡◌, ◌<◌, ◌+◌, ◌^◌, ℕ, List, length, Ok}
use Rattle.smv_core.specs.declared.tree.Text.{Text}
use Rattle.smv_core.specs.Notation.{Tokens}
use Rattle.smv_core.specs.Spelling.{Spells}
use Rattle.smv_lex.specs.Lexing.{lexed}
use Rattle.law_places.specs.Placeless.{placeless_text}
use Rattle.law_formulas.specs.Formulas.{FormulaText}
use Rattle.law_formulas.specs.Monitors.{monitors_of, translated}
use Rattle.law_formula_texts.specs.Spelled.{SpellsFormulas}
use Rattle.law_formula_texts.specs.Laws.{names_of}
use Rattle.law_translated_texts.specs.Translation.{translation_of}

-- The bytes of the translation of a text are read as tokens that spell the translated tree, places aside, within seven more levels.
abbrev pub TranslationsAreSpelled : Type 0
TranslationsAreSpelled = (n : ℕ) (text : List ℕ) (ts : Tokens) (ft : FormulaText) → monitors_of ft.formulas + 1 + length (names_of ts) < 2 ^ 32 → lexed text ≡ Ok ts → SpellsFormulas n ts ft →
    (us : Tokens) × (new : Text) × (lexed (translation_of text ts ft).text ≡ Ok us) × Spells (7 + n) us new × (placeless_text (translated (names_of ts) ft) ≡ placeless_text new)
