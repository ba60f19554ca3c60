-- What is due to a query, by what its parts are.
use Rattle.std.proofs.Common.{◌≡◌, ◌∙◌, ℕ, List, [], Option, Some, None, Err, sym, ap, subst}
use Rattle.smv_core.specs.declared.fault.Fault.{Fault}
use Rattle.smv_core.specs.declared.fault.Refusal.{Refusal}
use Rattle.smv_core.specs.declared.fault.Refusal.TheVariants as refusal
use Rattle.smv_core.specs.declared.flat.Unit.{Unit}
use Rattle.smv_problem.specs.declared.report.Budgets.{Budgets}
use Rattle.smv_problem.specs.declared.report.Plan.{Plan}
use Rattle.smv_core.specs.declared.tree.Text.{Text}
use Rattle.smv_parse.specs.Spelling.{SpellsText}
use Rattle.law_obligations.specs.Outlines.{place_of}
use Rattle.smv_lex.specs.Answers.{IfFault}
use Rattle.law_valid_texts.specs.Rooms.{IsWholePlan}
use Rattle.smv_read_design.specs.Answers.{HasPlan}
use Rattle.smv_read_design.specs.ReadPlanLaws.{PlansOfValidTextsAreWhole}
use Rattle.smv_read_design.specs.Named.{is_named}
use Rattle.smv_look_command.specs.declared.queries.Query.{Query}
use Rattle.smv_look_command.specs.declared.queries.Query.TheVariants as query
use Rattle.smv_look_lines.specs.Lists.{list_lines}
use Rattle.smv_look_lint.specs.Lines.{lint_lines}
use Rattle.smv_look_sets.specs.Sought.{front}
use Rattle.smv_look_run.specs.declared.Status.{Status}
use Rattle.smv_look_run.specs.declared.Status.TheVariants.{Written, Refused}
use Rattle.smv_look_run.specs.Cases.{IsShownAt}
use Rattle.smv_look_run.specs.Models.{IsModelledAt}
use Rattle.smv_look_run.specs.Sets.{AreSetsAt}
use Rattle.smv_look_run.specs.Dues.{IsDue, IsRefusal, fronted, lint_status, linted, listed, modelled, name_asked, shown, sought, unnamed}
use Rattle.smv_look_run.proofs.Endings.{due_fault}

-- the fault that a call answers
pub fault_of : (X : Type 0) (r : Refusal) (f : Fault) (P : Fault → Type 0) → r ≡ refusal.Fault f → IfFault {X = X} (Err r) P → P f
fault_of X r f P is bad = subst (λ (z : Refusal). IfFault {X = X} (Err z) P) is bad

-- the plan of a valid text is whole
pub whole_of : PlansOfValidTextsAreWhole → (text : List ℕ) (plan : Plan) → HasPlan text plan → IsWholePlan plan
whole_of law text plan (tree, valid, is) = law text tree valid plan is

-- what was found among the units that a slice shows, by the bytes of a name
pub found_among : (plan : Plan) (name shown_name : List ℕ) (units : List Unit) → units ≡ plan.units → shown_name ≡ name → (place answer : Option ℕ) → place ≡ place_of (is_named plan.design shown_name) units → place ≡ answer →
    place_of (is_named plan.design name) plan.units ≡ answer
found_among plan name shown_name units same bytes place answer found is =
    sym (ap (λ (n : List ℕ). place_of (is_named plan.design n) plan.units) bytes) ∙ (sym (ap (place_of (is_named plan.design shown_name)) same) ∙ (sym found ∙ is))

module _ (asked : Query) (text : List ℕ) (plan : Plan) (has : HasPlan text plan) where
  -- the units
  pub due_list : (due : Status) (answer : List ℕ) → asked ≡ query.List → due ≡ Written → answer ≡ list_lines text plan → IsDue asked text due answer
  due_list due answer is e f = rw is (rw e (rw f (listed plan has)))

  -- the warnings
  pub due_lint : (tree : Text) (due : Status) (answer : List ℕ) → SpellsText text tree → asked ≡ query.Lint → due ≡ lint_status answer → answer ≡ lint_lines text tree plan → IsDue asked text due answer
  due_lint tree due answer spelled is e f = rw is (rw e (rw f (linted tree plan spelled has)))

  -- what stands before the sets in a document
  pub due_front : (due : Status) (answer : List ℕ) → asked ≡ query.Front → due ≡ Written → answer ≡ front text → IsDue asked text due answer
  due_front due answer is e f = rw is (rw e (rw f (fronted plan has)))

  module _ (name shown_name : List ℕ) (units : List Unit) (same : units ≡ plan.units) (bytes : shown_name ≡ name) where
    -- the case of the unit that has the name
    pub due_shown : (number : ℕ) → asked ≡ query.Cone name number → (place : Option ℕ) (u : ℕ) (due : Status) (answer : List ℕ) → place ≡ place_of (is_named plan.design shown_name) units → place ≡ Some u → IsShownAt plan u number due answer → IsDue asked text due answer
    due_shown number is place u due answer found at there = rw is (shown name number plan u has (found_among plan name shown_name units same bytes place (Some u) found at) there)

    -- its sets
    pub due_sought : (case : Option ℕ) (budgets : Budgets) → asked ≡ query.Sets name case budgets → (place : Option ℕ) (u : ℕ) (due : Status) (answer : List ℕ) → place ≡ place_of (is_named plan.design shown_name) units → place ≡ Some u →
        AreSetsAt plan u case budgets due answer → IsDue asked text due answer
    due_sought case budgets is place u due answer found at there = rw is (sought name case budgets plan u has (found_among plan name shown_name units same bytes place (Some u) found at) there)

    -- the circuit of its case
    pub due_model : (number : ℕ) → asked ≡ query.Aiger name number → (place : Option ℕ) (u : ℕ) (due : Status) (answer : List ℕ) → place ≡ place_of (is_named plan.design shown_name) units → place ≡ Some u → IsModelledAt plan u number due answer →
        IsDue asked text due answer
    due_model number is place u due answer found at there = rw is (modelled name number plan u has (found_among plan name shown_name units same bytes place (Some u) found at) there)

    -- no unit has it
    pub due_unnamed : name_asked asked ≡ Some name → (place : Option ℕ) (due : Status) (answer : List ℕ) → place ≡ place_of (is_named plan.design shown_name) units → place ≡ None → due ≡ Refused → IsRefusal asked text 26 0 answer → IsDue asked text due answer
    due_unnamed about place due answer found none e f =
        due_fault asked text 26 0 due answer (unnamed name plan about has (found_among plan name shown_name units same bytes place None found none)) e f
