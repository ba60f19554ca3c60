-- What is shown of a case of a unit.
use Rattle.std.specs.Prelude.{◌≡◌, ℕ, ◌-◌, List, map, length, slice_get, Option, Some, None}
use Rattle.smv_core.specs.declared.flat.Design.{Design}
use Rattle.smv_core.specs.declared.flat.Unit.{Unit}
use Rattle.smv_core.specs.declared.flat.Leaf.{Leaf}
use Rattle.smv_core.specs.declared.flat.Choice.{Choice}
use Rattle.smv_core.specs.declared.flat.Class.{Class}
use Rattle.law_obligations.specs.LeafCases.{leaf_cases}
use Rattle.law_problems.specs.Parts.{outlined, cone_with}
use Rattle.smv_problem.specs.Written.{written_element}
use Rattle.smv_problem.specs.declared.report.Plan.{Plan}
use Rattle.smv_cases.specs.Types.{types_of}
use Rattle.smv_look_lines.specs.Cones.{cone_lines, count_line}
use Rattle.smv_look_run.specs.declared.Status.{Status}
use Rattle.smv_look_run.specs.declared.Status.TheVariants.{Written, NoCase}

abbrev pub classes_of_cases : Design → Leaf → Choice → List (List Class)
classes_of_cases d leaf choice = leaf_cases d.sets leaf.params choice.keeps

-- the case of a number from 1 on
abbrev pub case_numbered : Design → Leaf → Choice → ℕ → Option (List Class)
case_numbered d leaf choice number = slice_get (classes_of_cases d leaf choice) (number - 1)

-- the lines of the case with these classes, by the elements of its cone as they are written
abbrev pub case_text : Design → Unit → Leaf → Choice → ℕ → List Class → List ℕ
case_text d unit leaf choice number classes =
    cone_lines (outlined d) unit leaf choice number (length (classes_of_cases d leaf choice)) (record { classes = classes }) (types_of d.sets leaf.params choice.keeps classes)
    (map written_element (cone_with d leaf choice classes))

-- the status and the lines of the case that is asked for, and where there is none how many there are
abbrev pub cone_status : Option (List Class) → Status
cone_status (Some classes) = Written
cone_status None = NoCase

abbrev pub cone_text : Design → Unit → Leaf → Choice → ℕ → Option (List Class) → List ℕ
cone_text d unit leaf choice number (Some classes) = case_text d unit leaf choice number classes
cone_text d unit leaf choice number None = count_line d unit (length (classes_of_cases d leaf choice))

-- the status and the lines that are due to the case of a number of the unit at a place of a plan
pub record IsShownAt (plan : Plan) (u number : ℕ) (due : Status) (answer : List ℕ) : Type 0 where
  pub unit : Unit
  pub leaf : Leaf
  pub choice : Choice
  pub has_unit : slice_get plan.units u ≡ Some unit
  pub has_leaf : slice_get plan.leaves u ≡ Some leaf
  pub has_choice : slice_get plan.choices u ≡ Some choice
  pub status : due ≡ cone_status (case_numbered plan.design leaf choice number)
  pub lines : answer ≡ cone_text plan.design unit leaf choice number (case_numbered plan.design leaf choice number)
