-- The answers of the passes over the rules of proof, joined.
use Rattle.std.proofs.Common.{◌≡◌, List, length, ap, sym, ◌∙◌}
use Rattle.std.specs.Prelude.{Option, None, Err}
use Rattle.smv_core.specs.declared.fault.Fault.{Fault}
use Rattle.smv_core.specs.declared.fault.Refusal.{Refusal}
use Rattle.smv_core.specs.declared.fault.Refusal.TheVariants as refusal
use Rattle.smv_core.specs.declared.flat.Design.{Design}
use Rattle.smv_core.specs.declared.flat.Leaf.{Leaf}
use Rattle.smv_core.specs.declared.flat.Choice.{Choice}
use Rattle.smv_core.specs.declared.flat.Unit.{Unit}
use Rattle.law_obligations.specs.Units.{units_of}
use Rattle.law_splits.proofs.Splits.{one_leaf_each}
use Rattle.law_uses.proofs.There.{one_choice_each}
use Rattle.smv_split_faults.specs.Answers.{AreLeaves}
use Rattle.smv_mentions.specs.FirstFault.{first_of, or_else}
use Rattle.law_splits.specs.Leaves.{leaves_of}
use Rattle.law_splits.specs.SplitFaults.{first_fault_of_splits}
use Rattle.law_uses.specs.Choices.{choices_of}
use Rattle.law_uses.specs.UseFaults.{first_fault_of_uses}
use Rattle.smv_cases.specs.Faults.{Refuses}
use Rattle.smv_choices.specs.Answers.{AreChosen}
use Rattle.smv_problem.specs.declared.report.Plan.{Plan}
use Rattle.smv_plans.specs.Plans.{faults_of_cases, plan_fault}

pub splits-refuse : (d : Design) (r : Refusal) → AreLeaves d (Err r) → Refuses {A = Plan} (plan_fault d) (Err r)
unfolding plan_fault
splits-refuse d (refusal.Fault f) is = ap (λ g. or_else g (or_else (first_fault_of_uses d) (first_of (faults_of_cases d (leaves_of d) (choices_of d))))) is
splits-refuse d refusal.OutOfMemory is = tt

pub uses-refuse : (d : Design) (r : Refusal) → first_fault_of_splits d ≡ None → AreChosen d (Err r) → Refuses {A = Plan} (plan_fault d) (Err r)
unfolding plan_fault
uses-refuse d (refusal.Fault f) none is =
    ap (λ g. or_else g (or_else (first_fault_of_uses d) (first_of (faults_of_cases d (leaves_of d) (choices_of d))))) none
    ∙ ap (λ g. or_else g (first_of (faults_of_cases d (leaves_of d) (choices_of d)))) is
uses-refuse d refusal.OutOfMemory none is = tt

pub cases-answer : (d : Design) (leaves : List Leaf) (choices : List Choice) (fault : Option Fault) → first_fault_of_splits d ≡ None → first_fault_of_uses d ≡ None → leaves ≡ leaves_of d → choices ≡ choices_of d
    → fault ≡ first_of (faults_of_cases d leaves choices) → plan_fault d ≡ fault
unfolding plan_fault
cases-answer d leaves choices fault none free same equal is =
    ap (λ g. or_else g (or_else (first_fault_of_uses d) (first_of (faults_of_cases d (leaves_of d) (choices_of d))))) none
    ∙ ap (λ g. or_else g (first_of (faults_of_cases d (leaves_of d) (choices_of d)))) free
    ∙ ap (λ l. first_of (faults_of_cases d l (choices_of d))) (sym same) ∙ ap (λ l. first_of (faults_of_cases d leaves l)) (sym equal) ∙ sym is

pub leaves-long : (d : Design) (leaves : List Leaf) (units : List Unit) → leaves ≡ leaves_of d → units ≡ units_of d → length leaves ≡ length units
leaves-long d leaves units is are = ap length is ∙ one_leaf_each d ∙ ap length (sym are)

pub choices-long : (d : Design) (choices : List Choice) (units : List Unit) → choices ≡ choices_of d → units ≡ units_of d → length choices ≡ length units
choices-long d choices units is are = ap length is ∙ one_choice_each d ∙ one_leaf_each d ∙ ap length (sym are)

pub ruleset answers = (splits-refuse, uses-refuse, cases-answer, leaves-long, choices-long)
