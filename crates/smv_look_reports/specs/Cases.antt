-- What the call takes of a plan and of the results of its units, and the law that right results give it.
use Rattle.std.specs.Prelude.{◌≡◌, ℕ, List, length, slice_get, Some}
use Rattle.smv_core.specs.declared.flat.Design.{Design}
use Rattle.smv_core.specs.declared.flat.Leaf.{Leaf}
use Rattle.smv_core.specs.declared.flat.Choice.{Choice}
use Rattle.smv_bits.specs.declared.Bits.{Bits}
use Rattle.law_problems.specs.Parts.{IsCaseOf, IsPart}
use Rattle.law_reports.specs.Reports.{AreResultsFrom}
use Rattle.law_valid_texts.specs.Faultless.{script_of_plan}
use Rattle.law_valid_texts.specs.Rooms.{IsWholePlan}
use Rattle.smv_problem.specs.declared.report.Plan.{Plan}
use Rattle.smv_problem.specs.declared.report.Verdict.{Verdict}
use Rattle.smv_problem.specs.declared.report.Verdict.TheVariants.{True, False, UnknownNodes, UnknownSteps}
use Rattle.smv_problem.specs.declared.report.UnitResult.{UnitResult}

-- a unit that is false or unknown is so in one of its cases
abbrev pub HasCase : Design → Leaf → Choice → Verdict → Type 0
HasCase d leaf choice True = Unit {0}
HasCase d leaf choice (False case elements path) = IsCaseOf d leaf choice case.classes
HasCase d leaf choice (UnknownNodes case count) = IsCaseOf d leaf choice case.classes
HasCase d leaf choice (UnknownSteps case) = IsCaseOf d leaf choice case.classes

module _ (plan : Plan) where
  abbrev pub AreParts : Type 0
  AreParts = (u : ℕ) (leaf : Leaf) (choice : Choice) → slice_get plan.leaves u ≡ Some leaf → slice_get plan.choices u ≡ Some choice → IsPart plan.design leaf choice

  abbrev pub HaveCases : List UnitResult → Type 0
  HaveCases results = (u : ℕ) (leaf : Leaf) (choice : Choice) (r : UnitResult) → slice_get plan.leaves u ≡ Some leaf → slice_get plan.choices u ≡ Some choice → slice_get results u ≡ Some r → HasCase plan.design leaf choice r.verdict

-- the results of a whole plan that are right under some budgets are so
abbrev pub RightResultsHaveCases : Type 0
RightResultsHaveCases = (plan : Plan) → IsWholePlan plan → (bits : Bits) (nodes steps : ℕ) (results : List UnitResult) → AreResultsFrom (script_of_plan plan) bits nodes steps 0 (script_of_plan plan).entries results →
    (length results ≡ length plan.units) × HaveCases plan results
