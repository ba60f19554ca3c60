-- The laws: what the crate's public functions say.
use Rattle.std.specs.Prelude.{◌≡◌, ℕ, List, None}
use Rattle.smv_core.specs.Notation.{Tokens}
use Rattle.smv_core.specs.Spelling.{Spells}
use Rattle.smv_core.specs.Sound.{IsSound}
use Rattle.smv_core.specs.declared.tree.Text.{Text}
use Rattle.smv_mentions.specs.FirstFault.{first_of, or_else}
use Rattle.law_obligations.specs.Checked.{IsChecked, IsProved}
use Rattle.law_uses.specs.Choices.{choices_of}
use Rattle.smv_problem.specs.declared.report.Plan.{Plan}
use Rattle.smv_front.specs.Plans.{IsPlan}
use Rattle.smv_front.specs.TextFault.{text_fault}
use Rattle.law_valid_texts.specs.Joined.{flat_design}
use Rattle.law_valid_texts.specs.Plans.{IsPlanOf}
use Rattle.law_valid_texts.specs.Faults.{faults_of_widths, pass_fault}
use Rattle.law_valid_texts.specs.Reports.{IsValid}
use Rattle.law_valid_texts.specs.Faultless.{IsFaultless, script_of_plan}
use Rattle.law_valid_texts.specs.Rooms.{IsWholePlan}

-- the first fault of all passes is that of the passes up to cases, or else the first case with too many state bits
abbrev pub WidthsAreLast : Type 0
WidthsAreLast = (tree : Text) → pass_fault tree ≡ or_else (text_fault tree) (first_of (faults_of_widths (flat_design tree)))

-- a text that some tokens spell, and in which the passes up to cases find no fault
abbrev pub ReadTextsAreFaultless : Type 0
ReadTextsAreFaultless = (n : ℕ) (tokens : Tokens) (tree : Text) → Spells n tokens tree → text_fault tree ≡ None → IsFaultless tree

-- the plan of a text's design is one of the text, with the choices that `using` states
abbrev pub PlansAreOfTexts : Type 0
PlansAreOfTexts = (tree : Text) (plan : Plan) → IsPlan (flat_design tree) plan → IsPlanOf tree plan × (plan.choices ≡ choices_of plan.design)

-- so the script of the plan of a valid text is as the soundness of the search asks, with no other premise
abbrev pub PlansOfValidTextsAreChecked : Type 0
PlansOfValidTextsAreChecked = (text : List ℕ) (tree : Text) → IsValid text tree → (plan : Plan) → IsPlan (flat_design tree) plan → IsChecked (script_of_plan plan)

-- and a valid text is sound where no case of a leaf of its plan has a violating path
abbrev pub ProvedValidTextsAreSound : Type 0
ProvedValidTextsAreSound = (text : List ℕ) (tree : Text) → IsValid text tree → (plan : Plan) → IsPlan (flat_design tree) plan → IsProved (script_of_plan plan) → IsSound tree

-- and ready to be decided
abbrev pub PlansOfValidTextsAreWhole : Type 0
PlansOfValidTextsAreWhole = (text : List ℕ) (tree : Text) → IsValid text tree → (plan : Plan) → IsPlan (flat_design tree) plan → IsWholePlan plan
