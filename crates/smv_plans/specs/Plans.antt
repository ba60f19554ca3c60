-- The plan of a design, and its first fault of the rules of proof.
use Rattle.std.specs.Prelude.{◌≡◌, List, flat_map, zip, option_to_list, Option}
use Rattle.smv_core.specs.declared.fault.Fault.{Fault}
use Rattle.smv_core.specs.declared.flat.Design.{Design}
use Rattle.smv_core.specs.declared.flat.Leaf.{Leaf}
use Rattle.smv_core.specs.declared.flat.Choice.{Choice}
use Rattle.smv_mentions.specs.FirstFault.{first_of, or_else}
use Rattle.law_obligations.specs.Units.{units_of, script_of}
use Rattle.law_obligations.specs.Times.{all_timed}
use Rattle.law_splits.specs.Leaves.{leaves_of}
use Rattle.law_splits.specs.SplitFaults.{first_fault_of_splits}
use Rattle.law_uses.specs.Choices.{choices_of}
use Rattle.law_uses.specs.UseFaults.{first_fault_of_uses}
use Rattle.smv_cases.specs.Faults.{cases_fault}
use Rattle.smv_problem.specs.declared.report.Plan.{Plan}

-- the leaves with too many parameters or cases
abbrev pub faults_of_cases : Design → List Leaf → List Choice → List Fault
faults_of_cases d leaves choices = flat_map (λ (leaf, choice). option_to_list (cases_fault d leaf choice)) (zip leaves choices)

-- the first fault of a design among 23 to 29: of its splits, or else of its uses, or else of the cases of its leaves
unfoldable pub plan_fault : Design → Option Fault
plan_fault d = or_else (first_fault_of_splits d) (or_else (first_fault_of_uses d) (first_of (faults_of_cases d (leaves_of d) (choices_of d))))

-- the plan of a design: its units in flat order, and the leaf, the choice and the times of uses of each
pub record IsPlan (d : Design) (plan : Plan) : Type 0 where
  pub design : plan.design ≡ d
  pub units : plan.units ≡ units_of d
  pub leaves : plan.leaves ≡ leaves_of d
  pub choices : plan.choices ≡ choices_of d
  pub timed : plan.timed ≡ all_timed (script_of d (leaves_of d) (choices_of d))
