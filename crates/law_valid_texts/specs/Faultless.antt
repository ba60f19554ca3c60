-- What the passes up to cases leave of a text.
use Rattle.std.specs.Prelude.{◌≡◌, None}
use Rattle.smv_core.specs.declared.tree.Text.{Text}
use Rattle.smv_mentions.specs.FirstFault.{first_of}
use Rattle.law_designs.specs.Flattening.{flatten}
use Rattle.law_designs.specs.WellKinded.{IsWellKinded}
use Rattle.law_designs.specs.SingleFaults.{first_fault_of_single}
use Rattle.law_designs.specs.FirstFault.{first_fault_of_design}
use Rattle.law_designs.specs.SetFaults.{first_fault_of_sets}
use Rattle.law_splits.specs.SplitFaults.{first_fault_of_splits}
use Rattle.law_obligations.specs.Outlines.{Script}
use Rattle.law_obligations.specs.Units.{script_of}
use Rattle.law_uses.specs.UseFaults.{first_fault_of_uses}
use Rattle.smv_problem.specs.declared.report.Plan.{Plan}
use Rattle.law_valid_texts.specs.Joined.{flat_design}
use Rattle.law_valid_texts.specs.Faults.{faults_of_cases}

-- Some tokens spell the text, and no pass up to cases finds a fault in it: of names, size and kinds, of single assignment, of loops and layers, of set types, of splits,
-- of uses, and of the parameters and cases of a leaf. It says nothing of state bits (30).
pub record IsFaultless (tree : Text) : Type 0 where
  pub kinds : IsWellKinded tree
  pub single : first_fault_of_single (flatten tree) ≡ None
  pub design : first_fault_of_design (flat_design tree) ≡ None
  pub sets : first_fault_of_sets (flatten tree) ≡ None
  pub splits : first_fault_of_splits (flat_design tree) ≡ None
  pub uses : first_fault_of_uses (flat_design tree) ≡ None
  pub cases : first_of (faults_of_cases (flat_design tree)) ≡ None

-- the script of a plan: its design, with each unit, its leaf and what the leaf's proof uses
abbrev pub script_of_plan : Plan → Script
script_of_plan plan = script_of plan.design plan.leaves plan.choices
