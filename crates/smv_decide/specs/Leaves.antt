-- The cases of a leaf, in order, and the verdict of the first that is not true.
use Rattle.std.specs.Prelude.{◌≡◌, List, map, Option, Some, None}
use Rattle.smv_core.specs.declared.flat.Design.{Design}
use Rattle.smv_core.specs.declared.flat.Leaf.{Leaf}
use Rattle.smv_core.specs.declared.flat.Choice.{Choice}
use Rattle.smv_core.specs.declared.flat.Class.{Class}
use Rattle.smv_core.specs.declared.flat.Case.{Case as CaseData}
use Rattle.law_obligations.specs.Sets.{Has}
use Rattle.smv_problem.specs.declared.report.Verdict.{Verdict}
use Rattle.smv_problem.specs.declared.report.Verdict.TheVariants.{False, UnknownNodes, UnknownSteps}
use Rattle.law_problems.specs.Parts.{IsCaseOf, width_fault}
use Rattle.smv_decide.specs.declared.Decision.{Decision}
use Rattle.smv_decide.specs.declared.Decision.TheVariants as decided

abbrev pub classes_in : List CaseData → List (List Class)
classes_in cases = map (λ (c : CaseData). c.classes) cases

-- the verdict of a leaf whose first case that is not true is this one; none where it is true
abbrev pub verdict_at : CaseData → Decision → Option Verdict
verdict_at case decided.True = None
verdict_at case (decided.False elements path) = Some (False case elements path)
verdict_at case (decided.UnknownNodes count) = Some (UnknownNodes case count)
verdict_at case decided.UnknownSteps = Some (UnknownSteps case)

-- each is a case of the leaf, and none has too many state bits
pub record AreCases (d : Design) (leaf : Leaf) (choice : Choice) (cases : List CaseData) : Type 0 where
  pub are_cases : (c : CaseData) → Has cases c → IsCaseOf d leaf choice c.classes
  pub have_width : (c : CaseData) → Has cases c → width_fault d leaf choice c.classes ≡ None
