-- What is answered where a text is to be translated.
use Rattle.std.specs.Prelude.{◌≡◌, Result, Ok, Err}
use Rattle.smv_core.specs.declared.fault.Refusal.{Refusal}
use Rattle.smv_core.specs.declared.fault.Refusal.TheVariants as refusal
use Rattle.law_translated_texts.specs.Translation.{Translation}
use Rattle.smv_ltl.specs.declared.Translated.{Translated}

-- the translation as its definition has it
abbrev pub shown : Translated → Translation
shown t = record { text = t.text; places = t.map }

-- the answer is this translation, unless memory ran out
abbrev pub IsThe : Result Translated Refusal → Translation → Type 0
IsThe (Ok t) s = shown t ≡ s
IsThe (Err refusal.OutOfMemory) s = Unit {0}
IsThe (Err (refusal.Fault f)) s = ⊥
