-- What worked reports are made of: designs by what their lines read of them, units, and texts by their lines.
use Rattle.std.specs.Prelude.{ℕ, List, [], map, None, true, false}
use Rattle.std.specs.List.{flat_map}
use Rattle.smv_core.specs.Values.{Name}
use Rattle.smv_core.specs.declared.flat.Simple.{Simple}
use Rattle.smv_core.specs.declared.flat.Simple.TheVariants.{Range}
use Rattle.smv_core.specs.declared.flat.SetInfo.{SetInfo}
use Rattle.smv_core.specs.declared.flat.Family.{Family}
use Rattle.smv_core.specs.declared.flat.Design.{Design}
use Rattle.smv_core.specs.declared.flat.Param.{Param}
use Rattle.smv_core.specs.declared.flat.Class.{Class}
use Rattle.smv_core.specs.declared.flat.Case.{Case}
use Rattle.smv_core.specs.declared.flat.Element.{Element}
use Rattle.smv_problem.specs.declared.problem.AbsValue.{AbsValue}
use Rattle.smv_problem.specs.declared.problem.AbsState.{AbsState}
use Rattle.smv_problem.specs.declared.report.Verdict.{Verdict}
use Rattle.smv_problem.specs.declared.report.UnitResult.{UnitResult}
use Rattle.smv_problem.specs.declared.report.Report.{Report}
use Rattle.law_reports.specs.Lines.{line}

-- a text by its lines
abbrev pub written : List (List ℕ) → List ℕ
written lines = flat_map line lines

abbrev pub scalars : Name → SetInfo
scalars name = record { name = name; ordered = false; size = None }

abbrev pub ordinals : Name → SetInfo
ordinals name = record { name = name; ordered = true; size = None }

abbrev pub family : Name → List Simple → Simple → Family
family name over value = record { name = name; over = over; value = value; is_abstract = false; at = 0 }

abbrev pub boolean : Simple
boolean = Range 0 1

-- a design of these set types, enumerations and families
abbrev pub design : List SetInfo → List (List Name) → List Family → Design
design sets enums families = record { sets = sets; enums = enums; layers = []; families = families; defs = []; claims = []; splits = []; uses = [] }

abbrev pub element : ℕ → List Class → Element
element k indexes = record { family = k; indexes = indexes }

abbrev pub case : List Class → Case
case classes = record { classes = classes }

abbrev pub state : List AbsValue → AbsState
state values = record { values = values }

abbrev pub over : Simple → Param
over type = record { var = 0; over = type; name = [] }

abbrev pub told : Name → List Simple → Verdict → UnitResult
told name types verdict = record { name = name; params = map over types; verdict = verdict }

abbrev pub report : Design → List UnitResult → Report
report d units = record { design = d; units = units }
