-- What is answered of the circuit of a case.
use Rattle.std.specs.Prelude.{◌≡◌, ℕ, ◌-◌, List, ◌∷◌, ◌++◌, length, slice_get, Some, None}
use Rattle.smv_core.specs.declared.flat.Class.{Class}
use Rattle.smv_core.specs.declared.flat.Leaf.{Leaf}
use Rattle.smv_core.specs.declared.flat.Choice.{Choice}
use Rattle.smv_core.specs.declared.flat.Timed.{Timed}
use Rattle.law_obligations.specs.LeafCases.{leaf_cases}
use Rattle.law_obligations.specs.Readings.{PosedCase}
use Rattle.law_problems.specs.Parts.{case_with}
use Rattle.law_reports.specs.CaseLists.{IsListsOf}
use Rattle.smv_problem.specs.declared.report.Plan.{Plan}
use Rattle.smv_rings.specs.Lists.{Lists}
use Rattle.smv_circuits.specs.Frames.{IsFileOf}
use Rattle.smv_look_aiger.specs.declared.models.Model.{Model}
use Rattle.smv_look_aiger.specs.declared.models.Model.TheVariants.{File, NoCase}

-- the file of a circuit of the lists of a case
pub record IsCircuitOf (case : PosedCase) (file : List ℕ) : Type 0 where
  pub lists : Lists
  pub are_lists : IsListsOf case lists
  pub is_file : IsFileOf lists file

-- a comment is put behind
abbrev pub IsCommented : List ℕ → List ℕ → Type 0
IsCommented file bytes = (comment : List ℕ) × (bytes ≡ file ++ 99 ∷ 10 ∷ comment)

-- such a file, and a comment
abbrev pub IsFileOfCase : PosedCase → List ℕ → Type 0
IsFileOfCase case bytes = (file : List ℕ) × IsCircuitOf case file × IsCommented file bytes

-- the circuit of the case of a number, from 1 on, of these cases; or there is none, and so many there are
abbrev pub IsModel : (List Class → PosedCase) → List (List Class) → ℕ → Model → Type 0
IsModel case_of cases number (File bytes) = (classes : List Class) × (slice_get cases (number - 1) ≡ Some classes) × IsFileOfCase (case_of classes) bytes.items
IsModel case_of cases number (NoCase count) = (slice_get cases (number - 1) ≡ None) × (count ≡ length cases)

-- so of the cases of the unit at a place of a plan
pub record IsModelAt (plan : Plan) (u number : ℕ) (model : Model) : Type 0 where
  pub leaf : Leaf
  pub choice : Choice
  pub timed : Timed
  pub has_leaf : slice_get plan.leaves u ≡ Some leaf
  pub has_choice : slice_get plan.choices u ≡ Some choice
  pub has_timed : slice_get plan.timed u ≡ Some timed
  pub is_model : IsModel (case_with plan.design leaf choice timed) (leaf_cases plan.design.sets leaf.params choice.keeps) number model
