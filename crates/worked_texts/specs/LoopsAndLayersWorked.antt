-- How a worked text is stated: its bytes, and the first fault of loops and layers of its design, or its edges.
use Rattle.std.specs.Prelude.{ℕ, List, ◌≡◌, map, flat_map, Option, Some, None, option_map}
use Rattle.smv_core.specs.declared.flat.Design.{Design}
use Rattle.worked_texts.specs.Worked.{Answer, unread, answer_of}
use Rattle.worked_texts.specs.SingleAssignmentWorked.{design_in}
use Rattle.law_designs.specs.Loops.{Edge, edges_of, undelayed_in}
use Rattle.law_designs.specs.FirstFault.{first_fault_of_design}

abbrev of_design : Option Design → Answer
of_design None = unread
of_design (Some design) = answer_of (first_fault_of_design design)

-- the first fault of loops and layers in these bytes, where their names and size have none
abbrev pub found_in : List ℕ → Answer
found_in text = of_design (design_in text)

-- each text has the answer that was worked out for it
abbrev pub AreFound : List (List ℕ × Answer) → Type 0
AreFound rows = map (λ (text, answer). found_in text) rows ≡ map (λ (text, answer). answer) rows

-- the edges of a design, in flat order
abbrev pub edges : Design → List Edge
edges design = flat_map (edges_of design) (undelayed_in design)

-- each text has the edges that were worked out for it
abbrev pub AreEdges : List (List ℕ × List Edge) → Type 0
AreEdges rows = map (λ (text, found). option_map edges (design_in text)) rows ≡ map (λ (text, found). Some found) rows
