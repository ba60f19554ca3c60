-- How a worked text is stated: its bytes, and its first fault of set types.
use Rattle.std.specs.Prelude.{ℕ, List, ◌≡◌, map, Option, Some, None}
use Rattle.smv_core.specs.declared.flat.FlatText.{FlatText}
use Rattle.worked_texts.specs.Worked.{Answer, unread, answer_of}
use Rattle.worked_texts.specs.FlatteningWorked.{flattened}
use Rattle.law_designs.specs.SetFaults.{first_fault_of_sets}

abbrev of_flattened : Option FlatText → Answer
of_flattened None = unread
of_flattened (Some flat_text) = answer_of (first_fault_of_sets flat_text)

-- the first fault of set types in these bytes, where their names and size have none
abbrev pub found_in : List ℕ → Answer
found_in text = of_flattened (flattened text)

-- each text has the answer that was worked out for it
abbrev pub AreFound : List (List ℕ × Answer) → Type 0
AreFound rows = map (λ (text, answer). found_in text) rows ≡ map (λ (text, answer). answer) rows
