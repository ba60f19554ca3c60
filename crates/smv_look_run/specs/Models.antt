-- What is answered of the circuit of a case: any file where there is the case, and else how many there are.
use Rattle.std.specs.Prelude.{◌≡◌, ℕ, List, slice_get, Some}
use Rattle.smv_core.specs.declared.flat.Design.{Design}
use Rattle.smv_core.specs.declared.flat.Unit.{Unit}
use Rattle.smv_problem.specs.declared.report.Plan.{Plan}
use Rattle.smv_look_lines.specs.Cones.{count_line}
use Rattle.smv_look_aiger.specs.declared.models.Model.{Model}
use Rattle.smv_look_aiger.specs.declared.models.Model.TheVariants as model
use Rattle.smv_look_aiger.specs.Models.{IsModelAt}
use Rattle.smv_look_run.specs.declared.Status.{Status}
use Rattle.smv_look_run.specs.declared.Status.TheVariants.{Written, NoCase}

abbrev pub model_status : Model → Status
model_status (model.File bytes) = Written
model_status (model.NoCase count) = NoCase

abbrev pub model_text : Design → Unit → Model → List ℕ
model_text d unit (model.File bytes) = bytes.items
model_text d unit (model.NoCase count) = count_line d unit count

-- the status and the bytes that are due to the circuit of the case of a number of the unit at a place of a plan
pub record IsModelledAt (plan : Plan) (u number : ℕ) (due : Status) (answer : List ℕ) : Type 0 where
  pub unit : Unit
  pub model : Model
  pub has_unit : slice_get plan.units u ≡ Some unit
  pub is_model : IsModelAt plan u number model
  pub status : due ≡ model_status model
  pub lines : answer ≡ model_text plan.design unit model
