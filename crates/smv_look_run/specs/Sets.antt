-- What is answered of the sets of a unit.
use Rattle.std.specs.Prelude.{◌≡◌, ℕ, List, slice_get, Option, Some}
use Rattle.law_obligations.specs.Outlines.{Entry}
use Rattle.law_obligations.specs.Units.{script_of}
use Rattle.smv_problem.specs.declared.report.Budgets.{Budgets}
use Rattle.smv_problem.specs.declared.report.Plan.{Plan}
use Rattle.smv_problem.specs.declared.report.Verdict.{Verdict}
use Rattle.smv_problem.specs.declared.report.Verdict.TheVariants.{True, False, UnknownNodes, UnknownSteps}
use Rattle.law_checked_proofs.specs.Cases.{cases_at}
use Rattle.smv_look_sets.specs.declared.sought.Sought.{Sought}
use Rattle.smv_look_sets.specs.declared.sought.Sought.TheVariants as found
use Rattle.smv_look_sets.specs.Sought.{IsSought, sought_text}
use Rattle.smv_look_run.specs.declared.Status.{Status}
use Rattle.smv_look_run.specs.declared.Status.TheVariants.{Written, NoCase, SomeFalse, SomeUnknown}

abbrev pub verdict_status : Verdict → Status
verdict_status True = Written
verdict_status (False case elements path) = SomeFalse
verdict_status (UnknownNodes case count) = SomeUnknown
verdict_status (UnknownSteps case) = SomeUnknown

-- the status under which it is told what is found
abbrev pub sought_status : Sought → Status
sought_status (found.Sets sets) = Written
sought_status (found.Open verdict) = verdict_status verdict
sought_status (found.NoCase count) = NoCase

-- the status and the lines that are due to the sets of the unit at a place of a plan, or to the set of its case of a number
pub record AreSetsAt (plan : Plan) (u : ℕ) (case : Option ℕ) (budgets : Budgets) (due : Status) (answer : List ℕ) : Type 0 where
  pub entry : Entry
  pub sought : Sought
  pub has_entry : slice_get (script_of plan.design plan.leaves plan.choices).entries u ≡ Some entry
  pub is_sought : IsSought budgets.nodes budgets.steps (cases_at (script_of plan.design plan.leaves plan.choices) u entry) case sought
  pub status : due ≡ sought_status sought
  pub lines : answer ≡ sought_text plan.design entry sought
