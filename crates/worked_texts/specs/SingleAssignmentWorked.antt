-- How a worked text is stated: its bytes, and its first fault of single assignment, or its design or a part of it.
use Rattle.std.specs.Prelude.{ℕ, List, ◌≡◌, map, Option, Some, None, true, option_map}
use Rattle.smv_core.specs.declared.flat.FlatText.{FlatText}
use Rattle.smv_core.specs.declared.flat.Def.{Def}
use Rattle.smv_core.specs.declared.flat.Design.{Design}
use Rattle.worked_texts.specs.Worked.{Answer, unread, answer_of}
use Rattle.worked_texts.specs.FlatteningWorked.{flattened}
use Rattle.law_designs.specs.SingleFaults.{first_fault_of_single}
use Rattle.law_designs.specs.Laws.{left_sides_are_whole}
use Rattle.law_designs.specs.Definitions.{design_of_flat_text}

abbrev of_flattened : Option FlatText → Answer
of_flattened None = unread
of_flattened (Some flat_text) = answer_of (first_fault_of_single flat_text)

-- the first fault of single assignment in these bytes, where their names and size have none
abbrev pub found_in : List ℕ → Answer
found_in text = of_flattened (flattened text)

-- each text has the answer that was worked out for it
abbrev pub AreFound : List (List ℕ × Answer) → Type 0
AreFound rows = map (λ (text, answer). found_in text) rows ≡ map (λ (text, answer). answer) rows

-- the design of these bytes
abbrev pub design_in : List ℕ → Option Design
design_in text = option_map design_of_flat_text (flattened text)

-- each text has the part of its design that was worked out for it
abbrev pub AreDesigned : {X : Type 0} → (Design → X) → List (List ℕ × X) → Type 0
AreDesigned part rows = map (λ (text, x). option_map part (design_in text)) rows ≡ map (λ (text, x). Some x) rows

abbrev pub defs : Design → List Def
defs design = design.defs

-- the definitions by their layers, families and places
abbrev pub heads : Design → List (Option ℕ × ℕ × ℕ)
heads design = map (λ (def : Def). (def.layer, def.family, def.place)) design.defs

abbrev pub whole : Design → Design
whole design = design

-- no left side in these bytes has more indexes than its family
abbrev pub HasWholeLeftSides : List ℕ → Type 0
HasWholeLeftSides text = option_map left_sides_are_whole (flattened text) ≡ Some true
