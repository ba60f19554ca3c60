-- The laws: what the crate's public functions say.
use Rattle.std.specs.Prelude.{◌≡◌, ℕ, List, None}
use Rattle.smv_core.specs.Sound.{IsSound}
use Rattle.smv_core.specs.declared.tree.Text.{Text}
use Rattle.smv_mentions.specs.FirstFault.{first_of}
use Rattle.law_obligations.specs.Checked.{IsChecked, IsProved}
use Rattle.law_obligations.specs.Scripts.{HaveValues}
use Rattle.smv_problem.specs.declared.report.Plan.{Plan}
use Rattle.law_valid_texts.specs.Joined.{flat_design, IsFitForProof}
use Rattle.law_valid_texts.specs.Plans.{IsPlanOf}
use Rattle.law_valid_texts.specs.Faults.{faults_of_widths}
use Rattle.law_valid_texts.specs.Reports.{IsValid}
use Rattle.law_valid_texts.specs.Faultless.{IsFaultless, script_of_plan}

-- no pass up to cases finds a fault in a valid text, and none of its cases has too many state bits
abbrev pub ValidTextsAreFaultless : Type 0
ValidTextsAreFaultless = (text : List ℕ) (tree : Text) → IsValid text tree → IsFaultless tree × (first_of (faults_of_widths (flat_design tree)) ≡ None)

-- a text in which the passes up to cases find no fault is fit for proof
abbrev pub FaultlessTextsPass : Type 0
FaultlessTextsPass = (tree : Text) → IsFaultless tree → IsFitForProof tree

-- The rules of proof: whatever is chosen for the leaves, the script of a plan of such a text has no two set types of one name, no empty types, only definitions without conflicts, claims and
-- definitions that read whole elements, and leaves with the parameters and guards of their splits.
abbrev pub PlansAreChecked : Type 0
PlansAreChecked = (tree : Text) → IsFaultless tree → (plan : Plan) → IsPlanOf tree plan → IsChecked (script_of_plan plan)

-- and each scalarset that is declared with a size has a value
abbrev pub PlansHaveValues : Type 0
PlansHaveValues = (tree : Text) → IsFaultless tree → (plan : Plan) → IsPlanOf tree plan → HaveValues plan.design

-- so such a text is sound where no case of a leaf of a plan has a violating path
abbrev pub ProvedPlansAreSound : Type 0
ProvedPlansAreSound = (tree : Text) → IsFaultless tree → (plan : Plan) → IsPlanOf tree plan → IsProved (script_of_plan plan) → IsSound tree
