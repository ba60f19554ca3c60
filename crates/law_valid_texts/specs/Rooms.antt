-- Leaves that are small enough to be decided, and plans that are ready to be.
use Rattle.std.specs.Prelude.{◌≡◌, ℕ, List, length, slice_get, Some, None}
use Rattle.smv_core.specs.declared.flat.Design.{Design}
use Rattle.smv_core.specs.declared.flat.Leaf.{Leaf}
use Rattle.smv_core.specs.declared.flat.Choice.{Choice}
use Rattle.smv_core.specs.declared.flat.Class.{Class}
use Rattle.law_obligations.specs.Units.{units_of}
use Rattle.law_obligations.specs.Times.{all_timed}
use Rattle.smv_problem.specs.declared.report.Plan.{Plan}
use Rattle.law_problems.specs.Parts.{IsPart, IsCaseOf, cases_fault, width_fault}
use Rattle.law_valid_texts.specs.Faultless.{script_of_plan}

-- a leaf with few enough parameters and cases, none of which has too many state bits
pub record HasRoom (d : Design) (leaf : Leaf) (choice : Choice) : Type 0 where
  pub cases : cases_fault d leaf choice ≡ None
  pub width : (classes : List Class) → IsCaseOf d leaf choice classes → width_fault d leaf choice classes ≡ None

-- a leaf, a choice and the times of uses for each unit of a design; each leaf is that of the unit at its place, is one that the calls on a leaf take, and has room
pub record IsWholePlan (plan : Plan) : Type 0 where
  pub units : plan.units ≡ units_of plan.design
  pub leaves : length plan.leaves ≡ length plan.units
  pub choices : length plan.choices ≡ length plan.units
  pub timed : plan.timed ≡ all_timed (script_of_plan plan)
  pub own : (u : ℕ) (leaf : Leaf) → slice_get plan.leaves u ≡ Some leaf → leaf.unit ≡ u
  pub parts : (u : ℕ) (leaf : Leaf) (choice : Choice) → slice_get plan.leaves u ≡ Some leaf → slice_get plan.choices u ≡ Some choice → IsPart plan.design leaf choice
  pub room : (u : ℕ) (leaf : Leaf) (choice : Choice) → slice_get plan.leaves u ≡ Some leaf → slice_get plan.choices u ≡ Some choice → HasRoom plan.design leaf choice
