-- The lines of `cone`: the elements of a case's cone, each with its bits and its definition.
use Rattle.std.specs.Prelude.{ℕ, List, [], ◌∷◌, ◌++◌, codes, length, map, slice_get, take, unwrap_or, option_and_then, Option, Some, None, Bool, true, false, ◌&&◌, if◌then◌else◌}
use Rattle.std.specs.Fmt.{decimal}
use Rattle.smv_core.specs.Values.{Name}
use Rattle.smv_core.specs.declared.abstract_type.AbsType.{AbsType}
use Rattle.smv_core.specs.declared.flat.Design.{Design}
use Rattle.smv_core.specs.declared.flat.Def.{Def}
use Rattle.smv_core.specs.declared.flat.DefBody.{DefBody, Nothing}
use Rattle.smv_core.specs.declared.flat.Unit.{Unit}
use Rattle.smv_core.specs.declared.flat.Leaf.{Leaf}
use Rattle.smv_core.specs.declared.flat.Choice.{Choice}
use Rattle.smv_core.specs.declared.flat.Case.{Case}
use Rattle.smv_core.specs.declared.flat.Class.{Class}
use Rattle.smv_core.specs.declared.flat.Element.{Element}
use Rattle.law_obligations.specs.Soundness.{FlatUnit, map_of, claim_of, over_of}
use Rattle.law_obligations.specs.Outlines.{Outline, unit_in, chosen}
use Rattle.law_splits.specs.Leaves.{name_of}
use Rattle.law_reports.specs.Lines.{line, case_line, element_text}
use Rattle.smv_elements.specs.Elements.{same_element}
use Rattle.smv_readings.specs.StateBits.{bits_of_family, bits_of_elements}

-- the base definition, or that of a layer
abbrev pub layer_text : Option Name → List ℕ
layer_text None = codes "base"
layer_text (Some layer) = codes "layer " ++ layer

abbrev pub says_nothing : DefBody → Bool
says_nothing Nothing = true
says_nothing _ = false

-- a definition with an `init` or a `next` keeps a state, and one that has neither is combinational
abbrev pub sort_text : Def → List ℕ
sort_text def = if says_nothing def.init && says_nothing def.next then codes ", combinational" else codes ", state"

-- what a proof uses as the definition of an element
abbrev pub origin_text : Design → Option Def → List ℕ
origin_text d None = codes "free"
origin_text d (Some def) = layer_text (option_and_then (slice_get d.layers) def.layer) ++ sort_text def

-- the element of which a map is proved: its indexes are the first parameters of the leaf
abbrev pub target_of : Design → List Class → FlatUnit → Option Element
target_of d classes (map_of def) = Some (record { family = def.family; indexes = take (length (over_of (slice_get d.families def.family))) classes })
target_of d classes (claim_of claim) = None

abbrev pub is_target : Option Element → Element → Bool
is_target None x = false
is_target (Some target) x = same_element target x

-- the target of a map, which holds before where the map uses itself
abbrev pub target_text : Bool → Bool → List ℕ
target_text false itself = []
target_text true false = codes ", target"
target_text true true = codes ", target, own map before"

module _ (o : Outline) (choice : Choice) (types : List AbsType) (target : Option Element) where
  -- ` x[#0]: bits 2, base, state`
  abbrev pub element_line : Element → List ℕ
  element_line x = line (
      codes " " ++ element_text o.design (slice_get o.design.families x.family) x ++ codes ": bits " ++ decimal (bits_of_family o.design.families (map length o.design.enums) types x.family) ++ codes ", "
      ++ origin_text o.design (chosen o choice.picks x.family) ++ target_text (is_target target x) choice.itself)

  abbrev pub element_lines : List Element → List ℕ
  element_lines [] = []
  element_lines (x ∷ elements) = element_line x ++ element_lines elements

-- `u: case 1 of 2, bits 9`
abbrev pub cone_heading : Design → Unit → ℕ → ℕ → ℕ → List ℕ
cone_heading d unit number count bits =
    line (name_of d (unit_in d unit) ++ codes ": case " ++ decimal number ++ codes " of " ++ decimal count ++ codes ", bits " ++ decimal bits)

-- `u: cases 2`
abbrev pub count_line : Design → Unit → ℕ → List ℕ
count_line d unit count = line (name_of d (unit_in d unit) ++ codes ": cases " ++ decimal count)

-- the lines of a case of this number, of so many, with these forms of its set types and these elements
abbrev pub cone_lines : Outline → Unit → Leaf → Choice → ℕ → ℕ → Case → List AbsType → List Element → List ℕ
cone_lines o unit leaf choice number count case types elements =
    cone_heading o.design unit number count (bits_of_elements o.design.families (map length o.design.enums) types elements)
    ++ case_line o.design leaf.params case
    ++ element_lines o choice types (target_of o.design case.classes (unit_in o.design unit)) elements
