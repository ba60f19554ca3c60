-- What is told where a translation is too long.
use Rattle.std.specs.Prelude.{◌≡◌, ◌<◌, ◌++◌, ℕ, List, length}
use Rattle.smv_core.specs.declared.fault.Fault.{Fault}
use Rattle.law_translated_texts.specs.Answers.{limit}
use Rattle.law_translated_texts.specs.Translation.{Placed, Edit, edited}

-- so many bytes are too many, which the fault says
abbrev pub IsOver : ℕ → Fault → Type 0
IsOver n f = (f.number ≡ 31) × (f.at ≡ 0) × (limit < n)

abbrev pub IsTooLong : Placed → Fault → Type 0
IsTooLong bytes f = IsOver (length bytes) f

-- Behind these edits, whatever comes after them, the text is written on from here.
abbrev pub GoesOn : List ℕ → List Edit → ℕ → Placed → ℕ → Placed → Type 0
GoesOn text es from old to new = (more : List Edit) → new ++ edited text to more ≡ old ++ edited text from (es ++ more)

-- with these edits it is too long, whatever comes after them
abbrev pub IsTooLongWith : List ℕ → List Edit → ℕ → Placed → Fault → Type 0
IsTooLongWith text es from old f = (more : List Edit) → IsTooLong (old ++ edited text from (es ++ more)) f
