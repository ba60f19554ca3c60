-- What is shown of a unit that is unknown: its lines in the report, how many bits its case has, and the elements that have most of them.
use Rattle.std.specs.Prelude.{ℕ, ◌-◌, List, [], ◌++◌, codes, length, map, take, Option, if◌then◌else◌, nat_eq}
use Rattle.std.specs.Fmt.{decimal}
use Rattle.smv_core.specs.declared.abstract_type.AbsType.{AbsType}
use Rattle.smv_core.specs.declared.flat.Unit.{Unit}
use Rattle.smv_core.specs.declared.flat.Leaf.{Leaf}
use Rattle.smv_core.specs.declared.flat.Choice.{Choice}
use Rattle.smv_core.specs.declared.flat.Case.{Case}
use Rattle.smv_core.specs.declared.flat.Element.{Element}
use Rattle.law_obligations.specs.Outlines.{Outline, unit_in}
use Rattle.law_problems.specs.Parts.{cone_with}
use Rattle.law_reports.specs.Lines.{case_line, line}
use Rattle.smv_problem.specs.Written.{written_element}
use Rattle.smv_problem.specs.declared.report.UnitResult.{UnitResult}
use Rattle.smv_cases.specs.Types.{types_of}
use Rattle.smv_readings.specs.StateBits.{bits_of_elements}
use Rattle.smv_report_lines.specs.Parts.{heading}
use Rattle.smv_look_lines.specs.Cones.{element_lines, target_of}
use Rattle.smv_look_reports.specs.Dearest.{by_bits}

-- so many elements are shown at most
abbrev pub most_shown : ℕ
most_shown = 8

-- ` bits 13`
abbrev pub bits_line : ℕ → List ℕ
bits_line bits = line (codes " bits " ++ decimal bits)

-- ` and 5 more`
abbrev pub more_line : ℕ → List ℕ
more_line count = if nat_eq count 0 then [] else line (codes " and " ++ decimal count ++ codes " more")

module _ (o : Outline) (choice : Choice) (types : List AbsType) (target : Option Element) where
  -- the elements of most bits, as `cone` shows them, and how many there are beside them
  abbrev pub dearest_lines : List Element → List ℕ
  dearest_lines elements = element_lines o choice types target (take most_shown (by_bits o.design.families (map length o.design.enums) types elements)) ++ more_line (length elements - most_shown)

  -- the bits of all of them, and these lines
  abbrev pub bits_lines : List Element → List ℕ
  bits_lines elements = bits_line (bits_of_elements o.design.families (map length o.design.enums) types elements) ++ dearest_lines elements

-- those of the elements of a case's cone
abbrev pub cone_bits_lines : Outline → Unit → Leaf → Choice → Case → List ℕ
cone_bits_lines o unit leaf choice case =
    bits_lines o choice (types_of o.design.sets leaf.params choice.keeps case.classes) (target_of o.design case.classes (unit_in o.design unit)) (map written_element (cone_with o.design leaf choice case.classes))

abbrev pub unknown_lines : Outline → Unit → Leaf → Choice → UnitResult → Case → List ℕ
unknown_lines o unit leaf choice r case = heading r.name r.verdict ++ case_line o.design r.params case ++ cone_bits_lines o unit leaf choice case
