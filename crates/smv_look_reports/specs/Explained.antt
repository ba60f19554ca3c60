-- What `explain` writes of a report: of each unit what its verdict is about, in the report's order, and how many are true.
use Rattle.std.specs.Prelude.{ℕ, List, [], ◌∷◌, ◌++◌, Bool}
use Rattle.std.specs.List.{list_all}
use Rattle.smv_core.specs.declared.flat.Design.{Design}
use Rattle.smv_core.specs.declared.flat.Unit.{Unit}
use Rattle.smv_core.specs.declared.flat.Leaf.{Leaf}
use Rattle.smv_core.specs.declared.flat.Choice.{Choice}
use Rattle.smv_core.specs.declared.flat.Timed.{Timed}
use Rattle.smv_core.specs.declared.flat.Case.{Case}
use Rattle.smv_core.specs.declared.flat.Element.{Element}
use Rattle.law_obligations.specs.Outlines.{Outline, unit_in}
use Rattle.law_reports.specs.Lines.{is_true}
use Rattle.smv_problem.specs.declared.problem.AbsState.{AbsState}
use Rattle.smv_problem.specs.declared.problem.AbsValue.{AbsValue}
use Rattle.smv_problem.specs.declared.report.Plan.{Plan}
use Rattle.smv_problem.specs.declared.report.Verdict.{Verdict}
use Rattle.smv_problem.specs.declared.report.Verdict.TheVariants.{True, False, UnknownNodes, UnknownSteps}
use Rattle.smv_problem.specs.declared.report.UnitResult.{UnitResult}
use Rattle.smv_problem.specs.declared.report.Report.{Report}
use Rattle.smv_report_lines.specs.Generated.{proved_line}
use Rattle.smv_look_lines.specs.Lists.{choice_lines}
use Rattle.smv_look_lines.specs.Cones.{target_of}
use Rattle.smv_look_reports.specs.Paths.{path_lines}
use Rattle.smv_look_reports.specs.Allowed.{allowed_lines}
use Rattle.smv_look_reports.specs.Cones.{unknown_lines}
use Rattle.smv_look_reports.specs.Leans.{true_lines}

-- the path of a false unit, what its map allows at the end of it, and what its proof uses: that was taken for granted on it
abbrev pub false_lines : Design → Unit → Choice → Timed → UnitResult → List AbsValue → Case → List Element → List AbsState → List ℕ
false_lines d unit choice times r values case elements path =
    path_lines d (target_of d case.classes (unit_in d unit)) r.name r.params case elements path ++ allowed_lines d (target_of d case.classes (unit_in d unit)) values ++ choice_lines d choice times

module _ (o : Outline) (results : List UnitResult) where
  -- of a true unit what it leans on; of a false one its path, what its map allows, and what its proof uses; of an unknown one its case and what is dear there
  abbrev pub lines_for : Unit → Leaf → Choice → Timed → UnitResult → List AbsValue → Verdict → List ℕ
  lines_for unit leaf choice times r values True = true_lines o results choice r
  lines_for unit leaf choice times r values (False case elements path) = false_lines o.design unit choice times r values case elements path
  lines_for unit leaf choice times r values (UnknownNodes case count) = unknown_lines o unit leaf choice r case
  lines_for unit leaf choice times r values (UnknownSteps case) = unknown_lines o unit leaf choice r case

  abbrev pub unit_lines : Unit → Leaf → Choice → Timed → UnitResult → List AbsValue → List ℕ
  unit_lines unit leaf choice times r values = lines_for unit leaf choice times r values r.verdict

  -- those of each unit, with its leaf, its choice, its times, its result and what its map allows
  abbrev pub all_lines : List Unit → List Leaf → List Choice → List Timed → List UnitResult → List (List AbsValue) → List ℕ
  all_lines (unit ∷ units) (leaf ∷ leaves) (choice ∷ choices) (times ∷ timed) (r ∷ rs) (values ∷ allowed) = unit_lines unit leaf choice times r values ++ all_lines units leaves choices timed rs allowed
  all_lines _ _ _ _ _ _ = []

abbrev pub units_lines : Plan → List UnitResult → List (List AbsValue) → List ℕ
units_lines plan results allowed = all_lines (record { design = plan.design; units = plan.units }) results plan.units plan.leaves plan.choices plan.timed results allowed

-- the lines of a report of a plan, with what the maps of its units allow
abbrev pub explain_lines : Plan → Report → List (List AbsValue) → List ℕ
explain_lines plan report allowed = units_lines plan report.units allowed ++ proved_line report

-- every unit is true
abbrev pub are_all_true : List UnitResult → Bool
are_all_true results = list_all (λ r. is_true r.verdict) results
