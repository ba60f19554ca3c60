-- The laws: what the crate's public functions say.
use Rattle.std.specs.Prelude.{◌≤◌, ℕ, List, length}
use Rattle.law_translated_texts.specs.Translation.{Translation, back}
use Rattle.law_translated_texts.specs.Answers.{IsTranslated, IsRefused}

-- why a text is not translated is told at a place of at most its length
abbrev pub RefusalsAreWithin : Type 0
RefusalsAreWithin = (text : List ℕ) (number at : ℕ) → IsRefused text number at → at ≤ length text

-- each offset of a translation, its end included, is carried back into the text that was read
abbrev pub TranslationsAreCarriedBack : Type 0
TranslationsAreCarriedBack = (text : List ℕ) (t : Translation) (at : ℕ) → IsTranslated text t → back t at ≤ length text
