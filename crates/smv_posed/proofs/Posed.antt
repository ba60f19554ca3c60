-- Plans of texts, and the cases of their leaves.
use Rattle.std.proofs.Common.{◌≡◌, ◌<◌, ℕ, zero, suc, List, [], ◌∷◌, length, get_or, IfOk, Result, Ok, Err, sym, subst, arith}
use Rattle.smv_core.specs.declared.fault.Refusal.{Refusal}
use Rattle.smv_core.specs.declared.flat.Case.{Case as CaseData}
use Rattle.smv_core.specs.declared.flat.Choice.{Choice}
use Rattle.smv_core.specs.declared.flat.Design.{Design}
use Rattle.smv_core.specs.declared.flat.Leaf.{Leaf}
use Rattle.law_obligations.specs.Sets.{Has, first, later}
use Rattle.law_obligations.specs.LeafCases.{leaf_cases}
use Rattle.smv_problem.specs.declared.report.Plan.{Plan}
use Rattle.law_problems.specs.Parts.{IsCaseOf}
use Rattle.smv_plan_reports.specs.Rooms.{HasRoom, IsWholePlan}
use Rattle.smv_read_design.specs.ReadPlanLaws.{PlansOfValidTextsAreWhole}
use Rattle.smv_read_design.specs.Answers.{HasPlan}
use Rattle.smv_plan_reports.specs.Leaves.{classes_in}
use Rattle.smv_plan_reports.proofs.PlanLaws.{cases_are}

pub whole_if : PlansOfValidTextsAreWhole → (text : List ℕ) (result : Result Plan Refusal) → IfOk result (HasPlan text) → IfOk result IsWholePlan
whole_if whole text (Ok plan) (tree, valid, is) = whole text tree valid plan is
whole_if whole text (Err e) has = tt

has_at : {X : Type 0} (xs : List X) (k : ℕ) (x : X) → k < length xs → x ≡ get_or xs k x → Has xs x
has_at [] k x l e = absurd (omega arith)
has_at (y ∷ xs) zero x l e = subst (Has (y ∷ xs)) (sym e) first
has_at (y ∷ xs) (suc k) x l e = later (has_at xs k x (omega arith) e)

-- a case at a place of those of a leaf
pub case_there : (d : Design) (leaf : Leaf) (choice : Choice) (cases shown : List CaseData) (k : ℕ) (case : CaseData) → HasRoom d leaf choice → shown ≡ cases → classes_in cases ≡ leaf_cases d.sets leaf.params choice.keeps → k < length shown → case ≡ get_or shown k case → IsCaseOf d leaf choice case.classes
case_there d leaf choice cases shown k case room same are there is = (cases_are d leaf choice cases room are).are_cases case (subst (λ (xs : List CaseData). Has xs case) same (has_at shown k case there is))
