-- What the passes answer, joined.
use Rattle.std.proofs.Common.{◌≡◌, ◌≤◌, ◌∙◌, ℕ, List, length, ap, sym, Result, Ok, Err, Option, None, IfOk}
use Rattle.smv_core.specs.declared.fault.Fault.{Fault}
use Rattle.smv_core.specs.declared.fault.Refusal.{Refusal}
use Rattle.smv_core.specs.declared.fault.Refusal.TheVariants as refusal
use Rattle.smv_core.specs.declared.tree.Text.{Text}
use Rattle.smv_core.specs.declared.flat.Design.{Design}
use Rattle.smv_lex.specs.Answers.{IfFault}
use Rattle.smv_parse.specs.Spelling.{SpellsText, HasFault, levels}
use Rattle.smv_typing.specs.Answers.{IsSpelled}
use Rattle.smv_mentions.specs.FirstFault.{first_of, or_else}
use Rattle.law_obligations.specs.Units.{units_of}
use Rattle.law_splits.specs.Leaves.{leaves_of}
use Rattle.law_uses.proofs.There.{one_choice_each}
use Rattle.smv_cases.specs.Faults.{Refuses}
use Rattle.smv_problem.specs.declared.report.Plan.{Plan}
use Rattle.smv_front.specs.Plans.{IsPlan}
use Rattle.smv_front.specs.TextFault.{text_fault}
use Rattle.law_valid_texts.specs.Joined.{flat_design}
use Rattle.law_valid_texts.specs.Plans.{IsTree}
use Rattle.law_valid_texts.specs.Faults as valid
use Rattle.law_valid_texts.specs.Faults.{pass_fault}
use Rattle.law_answers.specs.Dues.{faulty, malformed, limit}
use Rattle.law_valid_texts.specs.PartLaws.{LeavesAreParts, LeavesHaveFewCases}
use Rattle.smv_read_design.specs.ReadPlanLaws.{WidthsAreLast, ReadTextsAreFaultless, PlansAreOfTexts}
use Rattle.smv_read_design.specs.Widths.{faults_of_widths, AreParts}
use Rattle.smv_read_design.specs.Answers.{HasPlan, IsFaultOf}

-- ---- a plan of a text without a fault of the passes up to cases

pub units_are : (d : Design) (plan : Plan) → IsPlan d plan → plan.units ≡ units_of plan.design
units_are d plan is = is.units ∙ ap units_of (sym is.design)

pub choices_are : (d : Design) (plan : Plan) → IsPlan d plan → length plan.choices ≡ length plan.leaves
choices_are d plan is = ap length is.choices ∙ (one_choice_each d ∙ ap length (sym is.leaves))

pub parts_are : ReadTextsAreFaultless → PlansAreOfTexts → LeavesAreParts → LeavesHaveFewCases → (tree : Text) (plan : Plan) → IsSpelled tree → text_fault tree ≡ None → IsPlan (flat_design tree) plan → AreParts plan.design plan.leaves plan.choices
parts_are faultless of_text parts few tree plan spelled none is u leaf choice at_leaf at_choice =
    let fine = faultless spelled.0 spelled.1 tree spelled.2 none in
    let own = of_text tree plan is in
    (parts tree fine plan own.0 u leaf choice at_leaf at_choice, few tree fine plan own.0 own.1 u leaf choice at_leaf at_choice)

pub widths_found : WidthsAreLast → (tree : Text) (plan : Plan) (fault : Option Fault) → text_fault tree ≡ None → IsPlan (flat_design tree) plan → fault ≡ first_of (faults_of_widths plan.design plan.leaves plan.choices) → fault ≡ pass_fault tree
widths_found last tree plan fault none is found =
    found
    ∙ ap (λ d. first_of (faults_of_widths d plan.leaves plan.choices)) is.design
    ∙ ap (λ l. first_of (faults_of_widths (flat_design tree) l plan.choices)) is.leaves
    ∙ ap (λ c. first_of (faults_of_widths (flat_design tree) (leaves_of (flat_design tree)) c)) is.choices
    ∙ sym (last tree ∙ ap (λ f. or_else f (first_of (valid.faults_of_widths (flat_design tree)))) none)

pub ruleset of_plans = (units_are, choices_are, parts_are, widths_found)

-- ---- a text that is spelled

pub earlier_refuses : WidthsAreLast → (tree : Text) (r : Refusal) → Refuses {A = Plan} (text_fault tree) (Err r) → Refuses {A = Plan} (pass_fault tree) (Err r)
earlier_refuses last tree (refusal.Fault f) is = last tree ∙ ap (λ g. or_else g (first_of (valid.faults_of_widths (flat_design tree)))) is
earlier_refuses last tree refusal.OutOfMemory is = tt

-- ---- a text

pub any_spelling : (text : List ℕ) (tree : Text) → SpellsText text tree → IsSpelled tree
any_spelling text tree is = (levels, is.0, is.2)

tree_of : (text : List ℕ) (tree : Text) → length text ≤ limit → SpellsText text tree → IsTree text tree
tree_of text tree within is = record { within = within; spelled = is }

pub plan_had : (text : List ℕ) (tree : Text) (result : Result Plan Refusal) → length text ≤ limit → SpellsText text tree → IfOk result (IsPlan (flat_design tree)) → Refuses (pass_fault tree) result → IfOk result (HasPlan text)
plan_had text tree (Ok plan) within spelled is none = (tree, record { is_tree = tree_of text tree within spelled; is_faultless = none }, is)
plan_had text tree (Err r) within spelled is none = tt

pub plan_refused : (text : List ℕ) (tree : Text) (result : Result Plan Refusal) → length text ≤ limit → SpellsText text tree → Refuses (pass_fault tree) result → IfFault result (IsFaultOf text)
plan_refused text tree (Ok plan) within spelled is = tt
plan_refused text tree (Err (refusal.Fault f)) within spelled is = λ command deciding. faulty tree f deciding (tree_of text tree within spelled) is
plan_refused text tree (Err refusal.OutOfMemory) within spelled is = tt

pub form_refused : (text : List ℕ) (r : Refusal) → length text ≤ limit → IfFault {X = Text} (Err r) (λ f. HasFault text f.number f.at) → IfFault {X = Plan} (Err r) (IsFaultOf text)
form_refused text (refusal.Fault f) within bad = λ command deciding. malformed f.number f.at within bad
form_refused text refusal.OutOfMemory within bad = tt

pub ruleset of_texts = (any_spelling, plan_had, plan_refused, form_refused)
