-- Parts of the lines by themselves: those of a unit, an element with its value, and which types are ordsets.
use Rattle.std.specs.Prelude.{ℕ, ◌-◌, List, [], ◌++◌, codes, length, slice_get, Option, Some, None, Bool, false}
use Rattle.std.specs.Fmt.{decimal}
use Rattle.smv_core.specs.Values.{Name}
use Rattle.smv_core.specs.declared.flat.Param.{Param}
use Rattle.smv_core.specs.declared.flat.Simple.{Simple}
use Rattle.smv_core.specs.declared.flat.Simple.TheVariants.{Set}
use Rattle.smv_core.specs.declared.flat.SetInfo.{SetInfo}
use Rattle.smv_core.specs.declared.flat.Family.{Family}
use Rattle.smv_core.specs.declared.flat.Design.{Design}
use Rattle.smv_core.specs.declared.flat.Element.{Element}
use Rattle.smv_problem.specs.declared.problem.AbsValue.{AbsValue}
use Rattle.smv_problem.specs.declared.report.Verdict.{Verdict}
use Rattle.smv_problem.specs.declared.report.Verdict.TheVariants.{True, False, UnknownNodes, UnknownSteps}
use Rattle.law_reports.specs.Lines.{case_line, element_text, line, time_lines, type_of_family, value_text}

-- the line of a unit that says what is decided of it
abbrev pub heading : Name → Verdict → List ℕ
heading name True = line (name ++ codes ": true")
heading name (False case elements path) = line (name ++ codes ": false at " ++ decimal (length path - 1))
heading name (UnknownNodes case count) = line (name ++ codes ": unknown nodes " ++ decimal count)
heading name (UnknownSteps case) = line (name ++ codes ": unknown steps")

-- the lines below it
abbrev pub details : Design → List Param → Verdict → List ℕ
details d params True = []
details d params (False case elements path) = case_line d params case ++ time_lines d elements 0 path
details d params (UnknownNodes case count) = case_line d params case
details d params (UnknownSteps case) = case_line d params case

-- `e = v` for an element of this family
abbrev pub assignment_text : Design → Option Family → Element → AbsValue → List ℕ
assignment_text d family x v = element_text d family x ++ codes " = " ++ value_text d (type_of_family d family) v

abbrev pub is_ordset : Option SetInfo → Bool
is_ordset (Some info) = info.ordered
is_ordset None = false

abbrev pub is_ordered : Design → Simple → Bool
is_ordered d (Set set) = is_ordset (slice_get d.sets set)
is_ordered d _ = false
