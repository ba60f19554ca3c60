-- The laws: what the crate's public functions say.
use Rattle.std.specs.Prelude.{◌≡◌, ◌↔◌, ◌<◌, ◌^◌, ℕ, List, length, Ok}
use Rattle.std.specs.List.{AllByRecursion}
use Rattle.smv_core.specs.Sound.{IsSound}
use Rattle.smv_core.specs.declared.tree.Text.{Text}
use Rattle.smv_core.specs.Notation.{Tokens}
use Rattle.smv_core.specs.Spelling.{Spells}
use Rattle.smv_lex.specs.Lexing.{lexed}
use Rattle.law_formulas.specs.Formulas.{FormulaText, IsSoundOverTimes}
use Rattle.law_formulas.specs.Monitors.{monitors_of, names_around}
use Rattle.law_formula_trees.specs.Behind.{AreApart}
use Rattle.law_fresh_monitors.specs.Spots.{spots}
use Rattle.law_formula_texts.specs.Spelled.{SpellsFormulas}
use Rattle.law_translated_texts.specs.Translation.{Translation, translation_of}
use Rattle.law_translated_texts.specs.Answers.{IsTranslated}

-- a text has at most one translation
abbrev pub TranslationsAreOne : Type 0
TranslationsAreOne = (text : List ℕ) (t u : Translation) → IsTranslated text t → IsTranslated text u → t ≡ u

-- The theorem for bytes: a text that is read with its formulas is sound over times exactly where the text is sound that is spelled by the bytes of its translation; no two binders around a formula have the same name.
abbrev pub TranslationsAreExact : Type 0
TranslationsAreExact = (text : List ℕ) (n : ℕ) (ts : Tokens) (ft : FormulaText) → lexed text ≡ Ok ts → SpellsFormulas n ts ft → length text < 2 ^ 30 → monitors_of ft.formulas < 2 ^ 30 → AllByRecursion (λ spot. AreApart (names_around spot.1)) (spots ft) →
    (m : ℕ) (us : Tokens) (x : Text) → lexed (translation_of text ts ft).text ≡ Ok us → Spells m us x → IsSoundOverTimes ft ↔ IsSound x
