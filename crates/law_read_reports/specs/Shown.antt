-- What the lines of a report show of its false units.
use Rattle.std.specs.Prelude.{◌≡◌, ◌<◌, ◌^◌, ℕ, true, List, [], ◌∷◌, map, length, slice_get, Ok}
use Rattle.std.specs.List.{flat_map, list_all}
use Rattle.smv_core.specs.Values.{Name}
use Rattle.smv_core.specs.declared.flat.Design.{Design}
use Rattle.smv_core.specs.declared.flat.Param.{Param}
use Rattle.smv_core.specs.declared.flat.Case.{Case}
use Rattle.smv_core.specs.declared.flat.Element.{Element}
use Rattle.smv_problem.specs.declared.problem.AbsValue.{AbsValue}
use Rattle.smv_problem.specs.declared.problem.AbsState.{AbsState}
use Rattle.smv_problem.specs.declared.report.Verdict.{Verdict}
use Rattle.smv_problem.specs.declared.report.Verdict.TheVariants.{True, False, UnknownNodes, UnknownSteps}
use Rattle.smv_problem.specs.declared.report.UnitResult.{UnitResult}
use Rattle.smv_problem.specs.declared.report.Report.{Report}
use Rattle.law_reports.specs.Lines.{classes_text, element_text, report_lines, type_of_family, value_text}
use Rattle.smv_read_report.specs.declared.reading.FalseUnit.{FalseUnit}
use Rattle.smv_read_report.specs.Pieces.{is_word}
use Rattle.smv_read_report.specs.Reports.{report_of}

-- texts that are words
abbrev pub AreWords : List (List ℕ) → Type 0
AreWords texts = list_all is_word texts ≡ true

module _ (d : Design) where
  -- an element and a value of it, as they are spelled
  abbrev pub element_name : Element → List ℕ
  element_name x = element_text d (slice_get d.families x.family) x

  abbrev pub value_name : Element → AbsValue → List ℕ
  value_name x v = value_text d (type_of_family d (slice_get d.families x.family)) v

  abbrev pub value_names : List Element → List AbsValue → List (List ℕ)
  value_names (x ∷ elements) (v ∷ values) = value_name x v ∷ value_names elements values
  value_names _ _ = []

  -- a false unit is shown by its case and its path, another one is not
  abbrev pub shown : Name → List Param → Verdict → List FalseUnit
  shown name params (False case elements path) =
      record { name = name; case = classes_text d params case.classes; elements = map element_name elements; states = map (λ a. value_names elements a.values) path } ∷ []
  shown name params _ = []

  -- a state gives each element a value that is spelled by a word
  pub record IsSpelled (elements : List Element) (a : AbsState) : Type 0 where
    pub values : length a.values ≡ length elements
    pub words : AreWords (value_names elements a.values)

  abbrev pub AreSpelled : List Element → List AbsState → Type 0
  AreSpelled elements [] = Unit {0}
  AreSpelled elements (a ∷ path) = IsSpelled elements a × AreSpelled elements path

  -- a case gives each parameter a class that is spelled by a word
  pub record IsCase (params : List Param) (case : Case) : Type 0 where
    pub classes : length case.classes ≡ length params
    pub words : AreWords (classes_text d params case.classes)

  pub record IsPath (elements : List Element) (path : List AbsState) : Type 0 where
    pub names : AreWords (map element_name elements)
    pub states : AreSpelled elements path
    pub some : 0 < length path
    pub few : length path < 2 ^ 64

  abbrev pub IsVerdict : List Param → Verdict → Type 0
  IsVerdict params True = Unit {0}
  IsVerdict params (False case elements path) = IsCase params case × IsPath elements path
  IsVerdict params (UnknownNodes case count) = IsCase params case
  IsVerdict params (UnknownSteps case) = IsCase params case

  abbrev pub AreReadable : List UnitResult → Type 0
  AreReadable [] = Unit {0}
  AreReadable (u ∷ units) = (is_word u.name ≡ true) × IsVerdict u.params u.verdict × AreReadable units

abbrev pub shown_of : Report → List FalseUnit
shown_of r = flat_map (λ u. shown r.design u.name u.params u.verdict) r.units

-- from the lines of a report whose names, classes and values are words, its false units are read
abbrev pub WrittenIsRead : Type 0
WrittenIsRead = (r : Report) → AreReadable r.design r.units → report_of (report_lines r) ≡ Ok (shown_of r)
