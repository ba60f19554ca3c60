-- What the maps of units allow, and the line of it below the table of a unit that is false.
use Rattle.std.specs.Prelude.{◌≡◌, ℕ, List, [], ◌∷◌, ◌++◌, codes, length, map, slice_get, Option, Some, None}
use Rattle.smv_core.specs.declared.flat.Design.{Design}
use Rattle.smv_core.specs.declared.flat.Element.{Element}
use Rattle.smv_core.specs.declared.flat.Class.{Class}
use Rattle.law_obligations.specs.Outlines.{Entry, Script}
use Rattle.law_obligations.specs.Readings.{PosedCase}
use Rattle.law_obligations.specs.Scripts.{case_at}
use Rattle.law_reports.specs.Lines.{line, with_commas}
use Rattle.law_read_reports.specs.Shown.{value_name}
use Rattle.smv_problem.specs.declared.problem.AbsValue.{AbsValue}
use Rattle.smv_problem.specs.declared.report.Verdict.{Verdict}
use Rattle.smv_problem.specs.declared.report.Verdict.TheVariants.{True, False, UnknownNodes, UnknownSteps}
use Rattle.smv_problem.specs.declared.report.UnitResult.{UnitResult}
use Rattle.smv_look_allowed.specs.Allowed.{AreAllowed}

-- ` the map allows #0, #1`
abbrev pub some_line : List (List ℕ) → List ℕ
some_line values = line (codes " the map allows " ++ with_commas values)

-- that of these values, or of none
abbrev pub values_line : List (List ℕ) → List ℕ
values_line [] = line (codes " the map allows no value for certain")
values_line (value ∷ values) = some_line (value ∷ values)

-- that of a map, with the values of its element, and nothing of a claim
abbrev pub allowed_lines : Design → Option Element → List AbsValue → List ℕ
allowed_lines d None values = []
allowed_lines d (Some x) values = values_line (map (value_name d x) values)

-- of a unit that is false these are the values that its map allows at the last time of the path, in the case of the verdict
abbrev pub AreAllowedBy : (List Class → PosedCase) → Verdict → List AbsValue → Type 0
AreAllowedBy case_for True values = Unit {0}
AreAllowedBy case_for (False case elements path) values = AreAllowed (case_for case.classes) path values
AreAllowedBy case_for (UnknownNodes case count) values = Unit {0}
AreAllowedBy case_for (UnknownSteps case) values = Unit {0}

-- and so for each unit of a script, by the result at its place
pub record AreAllowedByAll (s : Script) (results : List UnitResult) (allowed : List (List AbsValue)) : Type 0 where
  pub long : length allowed ≡ length results
  pub each : (u : ℕ) (entry : Entry) (r : UnitResult) (values : List AbsValue) → slice_get s.entries u ≡ Some entry → slice_get results u ≡ Some r → slice_get allowed u ≡ Some values → AreAllowedBy (case_at s u entry) r.verdict values
