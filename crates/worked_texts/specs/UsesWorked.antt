-- How a worked text is stated: its bytes, and its first fault of uses or the choices of its leaves; and short words for choices.
use Rattle.std.specs.Prelude.{ℕ, List, [], ◌≡◌, map, Option, Some, None, true, false, option_map}
use Rattle.smv_core.specs.declared.flat.FlatText.{FlatText}
use Rattle.smv_core.specs.declared.flat.Choice.{Choice}
use Rattle.smv_core.specs.declared.flat.Pick.{Pick}
use Rattle.smv_core.specs.declared.flat.Assumed.{Assumed}
use Rattle.smv_core.specs.declared.flat.Keep.{Keep}
use Rattle.worked_texts.specs.Worked.{Answer, unread, answer_of}
use Rattle.worked_texts.specs.FlatteningWorked.{flattened}
use Rattle.law_designs.specs.Definitions.{design_of_flat_text}
use Rattle.law_uses.specs.Choices.{choices_of, nothing_used}
use Rattle.law_uses.specs.UseFaults.{first_fault_of_uses}

-- ---- texts

abbrev of_flattened : Option FlatText → Answer
of_flattened None = unread
of_flattened (Some flat_text) = answer_of (first_fault_of_uses (design_of_flat_text flat_text))

-- the first fault of uses in these bytes, where their names and size have none
abbrev pub found_in : List ℕ → Answer
found_in text = of_flattened (flattened text)

-- each text has the answer that was worked out for it
abbrev pub AreFound : List (List ℕ × Answer) → Type 0
AreFound rows = map (λ (text, answer). found_in text) rows ≡ map (λ (text, answer). answer) rows

-- the choices of the leaves of these bytes
abbrev pub chosen_in : List ℕ → Option (List Choice)
chosen_in text = option_map (λ flat_text. choices_of (design_of_flat_text flat_text)) (flattened text)

-- each text has the choices that were worked out for it
abbrev pub AreChosen : List (List ℕ × List Choice) → Type 0
AreChosen rows = map (λ (text, choices). chosen_in text) rows ≡ map (λ (text, choices). Some choices) rows

-- ---- short words

-- the definition of a family in a layer, by their numbers
abbrev pub in_layer : ℕ → ℕ → Pick
in_layer family layer = record { family = family; layer = Some layer; early = false }

abbrev pub free : ℕ → Pick
free family = record { family = family; layer = None; early = false }

abbrev pub early : Pick → Pick
early p = record p { early = true }

abbrev pub claim : ℕ → Assumed
claim k = record { claim = k; early = false }

abbrev pub early_claim : ℕ → Assumed
early_claim k = record { claim = k; early = true }

abbrev pub keep : ℕ → List ℕ → Keep
keep set params = record { set = set; params = params }

-- these picks and claims and nothing else
abbrev pub uses : List Pick → List Assumed → Choice
uses picks claims = record nothing_used { picks = picks; claims = claims }

abbrev pub picking : List Pick → Choice
picking picks = uses picks []

abbrev pub assuming : List Assumed → Choice
assuming claims = uses [] claims

abbrev pub keeping_beside : Choice → List Keep → Choice
keeping_beside choice keeps = record choice { keeps = keeps }

abbrev pub keeping : List Keep → Choice
keeping keeps = keeping_beside nothing_used keeps

-- the leaf's own map besides
abbrev pub itself : Choice → Choice
itself choice = record choice { itself = true }
