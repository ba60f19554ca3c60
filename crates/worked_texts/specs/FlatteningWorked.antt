-- How a worked text is stated: its bytes, and its flattened text or a part of it; and short words for flattened texts.
use Rattle.std.specs.Prelude.{ℕ, List, ◌≡◌, map, Option, Some, None, Result, Ok, Err, true, false, option_map}
use Rattle.smv_core.specs.Values.{Name}
use Rattle.smv_core.specs.declared.fault.Fault.{Fault}
use Rattle.smv_core.specs.declared.tree.Text.{Text}
use Rattle.smv_core.specs.declared.tree.Word.{Word}
use Rattle.smv_core.specs.declared.flat.Simple.{Simple}
use Rattle.smv_core.specs.declared.flat.SetInfo.{SetInfo}
use Rattle.smv_core.specs.declared.flat.Family.{Family}
use Rattle.smv_core.specs.declared.flat.Param.{Param}
use Rattle.smv_core.specs.declared.flat.FlatExpr.{FlatExpr}
use Rattle.smv_core.specs.declared.flat.FlatSigned.{FlatSigned, roll-FlatSigned}
use Rattle.smv_core.specs.declared.flat.FlatStmt.{FlatStmt}
use Rattle.smv_core.specs.declared.flat.FlatItem.{FlatItem}
use Rattle.smv_core.specs.declared.flat.FlatItem.TheVariants.{Act}
use Rattle.smv_core.specs.declared.flat.FlatText.{FlatText}
use Rattle.smv_lex.specs.Lexing.{Lexed, lexed}
use Rattle.law_grammar.specs.Parsing.{Halt}
use Rattle.law_grammar.specs.Items.{read_text}
use Rattle.smv_mentions.specs.FirstFault.{first_fault}
use Rattle.law_designs.specs.Flattening.{flatten}

-- ---- texts

abbrev unless_fault : Text → Option Fault → Option FlatText
unless_fault text None = Some (flatten text)
unless_fault text (Some fault) = None

abbrev of_tree : Result Text Halt → Option FlatText
of_tree (Ok text) = unless_fault text (first_fault text)
of_tree (Err halt) = None

abbrev of_tokens : Lexed → Option FlatText
of_tokens (Ok tokens) = of_tree (read_text 64 tokens)
of_tokens (Err fault) = None

-- the flattened text of these bytes, where they spell a text whose names and size have no fault
abbrev pub flattened : List ℕ → Option FlatText
flattened text = of_tokens (lexed text)

-- each text has the part that was worked out for it
abbrev pub AreFlattened : {X : Type 0} → (FlatText → X) → List (List ℕ × X) → Type 0
AreFlattened part rows = map (λ (text, x). option_map part (flattened text)) rows ≡ map (λ (text, x). Some x) rows

-- ---- parts of a flattened text

abbrev pub families : FlatText → List Family
families flat_text = flat_text.families

abbrev pub items : FlatText → List FlatItem
items flat_text = flat_text.items

-- what is listed in front: the set types, the enumerations and the layers
abbrev pub Front : Type 0
Front = List SetInfo × List (List Name) × List Name

abbrev pub front : FlatText → Front
front flat_text = (flat_text.sets, flat_text.enums, flat_text.layers)

abbrev pub whole : FlatText → FlatText
whole flat_text = flat_text

-- ---- short words

-- a family with these index types and this value, declared at this place
abbrev pub of_type : Name → List Simple → Simple → ℕ → Family
of_type name over value at = record { name = name; over = over; value = value; is_abstract = false; at = at }

abbrev pub is_spec : Family → Family
is_spec f = record f { is_abstract = true }

-- a scalarset of any size
abbrev pub unsized : Name → SetInfo
unsized name = record { name = name; ordered = false; size = None }

-- a statement outside layers, and one of the layer of this number
abbrev pub outside : FlatStmt → FlatItem
outside act = Act None act

abbrev pub in_layer : ℕ → FlatStmt → FlatItem
in_layer layer act = Act (Some layer) act

-- what is added, and what is taken away
abbrev pub plus : FlatExpr → FlatSigned
plus e = roll-FlatSigned (record { minus = false; of = e })

abbrev pub minus : FlatExpr → FlatSigned
minus e = roll-FlatSigned (record { minus = true; of = e })

abbrev pub word : Name → ℕ → Word
word name at = record { name = name; at = at }

abbrev pub param : ℕ → Simple → Name → Param
param var over name = record { var = var; over = over; name = name }
