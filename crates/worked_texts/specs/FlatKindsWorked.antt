-- How a worked text is stated: its bytes, or a flattened text, and whether that keeps the rules of kinds, ranges and sets.
use Rattle.std.specs.Prelude.{ℕ, List, ◌≡◌, map, Some, Bool, option_map}
use Rattle.smv_core.specs.declared.flat.FlatText.{FlatText}
use Rattle.worked_texts.specs.FlatteningWorked.{flattened}
use Rattle.law_designs.specs.FlatKinds.{is_kinded}

-- the flattened text of each text has the answer that was worked out for it
abbrev pub AreAnswered : List (List ℕ × Bool) → Type 0
AreAnswered rows = map (λ (text, answer). option_map is_kinded (flattened text)) rows ≡ map (λ (text, answer). Some answer) rows

-- so has each flattened text
abbrev pub AreJudged : List (FlatText × Bool) → Type 0
AreJudged rows = map (λ (flat_text, answer). is_kinded flat_text) rows ≡ map (λ (flat_text, answer). answer) rows
