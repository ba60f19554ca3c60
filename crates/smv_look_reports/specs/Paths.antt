-- The path of a false unit as a table: exactly what `smv_wave table` makes of the unit's lines in a report, but for a mark behind the names of two sorts of elements.
use Rattle.std.specs.Prelude.{ℕ, List, [], ◌++◌, codes, map, slice_get, Option, Some, None, Bool, true, false}
use Rattle.smv_core.specs.Values.{Name}
use Rattle.smv_core.specs.declared.flat.Design.{Design}
use Rattle.smv_core.specs.declared.flat.Family.{Family}
use Rattle.smv_core.specs.declared.flat.Param.{Param}
use Rattle.smv_core.specs.declared.flat.Case.{Case}
use Rattle.smv_core.specs.declared.flat.Element.{Element}
use Rattle.smv_problem.specs.declared.problem.AbsState.{AbsState}
use Rattle.smv_problem.specs.declared.report.Verdict.TheVariants.{False}
use Rattle.law_reports.specs.Lines.{element_text}
use Rattle.law_read_reports.specs.Shown.{shown}
use Rattle.smv_read_report.specs.declared.reading.FalseUnit.{FalseUnit}
use Rattle.smv_path_tables.specs.Tables.{tables}
use Rattle.smv_look_lines.specs.Cones.{is_target}

-- the element of which a map is proved
abbrev pub target_mark : Bool → List ℕ
target_mark true = codes " target"
target_mark false = []

-- an element of an abstract signal
abbrev pub sort_mark : Bool → List ℕ
sort_mark true = codes " abstract"
sort_mark false = []

abbrev pub is_abstract : Option Family → Bool
is_abstract None = false
is_abstract (Some f) = f.is_abstract

module _ (d : Design) (target : Option Element) where
  -- `opa target`, `r[#0] abstract`
  abbrev pub marked_name : Element → List ℕ
  marked_name x = element_text d (slice_get d.families x.family) x ++ target_mark (is_target target x) ++ sort_mark (is_abstract (slice_get d.families x.family))

  -- a false unit with these elements by their marked names
  abbrev pub marked : List Element → FalseUnit → FalseUnit
  marked elements unit = record { name = unit.name; case = unit.case; elements = map marked_name elements; states = unit.states }

  -- the table of a unit that is false with this path
  abbrev pub path_lines : Name → List Param → Case → List Element → List AbsState → List ℕ
  path_lines name params case elements path = tables (map (marked elements) (shown d name params (False case elements path)))
