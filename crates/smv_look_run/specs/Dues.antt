-- What a call owes: its status and its whole answer.
use Rattle.std.specs.Prelude.{◌≡◌, ℕ, List, [], ◌∷◌, ◌++◌, codes, Option, Some, None, Bool, true, false, IfSome}
use Rattle.std.specs.Io.KnownBytes.{Appends, Keeps}
use Rattle.smv_core.specs.declared.fault.Fault.{Fault}
use Rattle.smv_core.specs.declared.tree.Text.{Text}
use Rattle.smv_parse.specs.Spelling.{SpellsText}
use Rattle.smv_problem.specs.declared.problem.AbsValue.{AbsValue}
use Rattle.smv_problem.specs.declared.report.Budgets.{Budgets}
use Rattle.smv_problem.specs.declared.report.Plan.{Plan}
use Rattle.smv_problem.specs.declared.report.Report.{Report}
use Rattle.smv_io.specs.Transfers.{TookFront}
use Rattle.smv_report.specs.Lines.{fault_text}
use Rattle.law_obligations.specs.Outlines.{place_of}
use Rattle.law_answers.specs.Dues.{default_bits, default_nodes, default_steps}
use Rattle.law_valid_texts.specs.Faultless.{script_of_plan}
use Rattle.law_valid_texts.specs.Reports.{IsRightReport}
use Rattle.smv_read_design.specs.Answers.{HasPlan, IsFaultOf}
use Rattle.smv_read_design.specs.Named.{is_named}
use Rattle.smv_look_command.specs.declared.queries.Query.{Query}
use Rattle.smv_look_command.specs.declared.queries.Query.TheVariants as query
use Rattle.smv_look_lines.specs.Lists.{list_lines}
use Rattle.smv_look_lint.specs.Lines.{lint_lines}
use Rattle.smv_look_reports.specs.Allowed.{AreAllowedByAll}
use Rattle.smv_look_reports.specs.Explained.{are_all_true, explain_lines}
use Rattle.smv_look_sets.specs.Sought.{front}
use Rattle.smv_look_faults.specs.Explained.{IsExplained}
use Rattle.smv_look_run.specs.declared.Status.{Status}
use Rattle.smv_look_run.specs.declared.Status.TheVariants.{Written, Warned, NoCase, SomeFalse, SomeUnknown, Refused, Usage, ReadFault, WriteFault, OutOfMemory}
use Rattle.smv_look_run.specs.Cases.{IsShownAt}
use Rattle.smv_look_run.specs.Models.{IsModelledAt}
use Rattle.smv_look_run.specs.Sets.{AreSetsAt}

-- the exit status of the program
abbrev pub number_of : Status → ℕ
number_of Written = 0
number_of Warned = 1
number_of NoCase = 1
number_of SomeFalse = 1
number_of SomeUnknown = 2
number_of Refused = 3
number_of Usage = 4
number_of ReadFault = 5
number_of WriteFault = 6
number_of OutOfMemory = 7

-- the name of the unit that a query is about
abbrev pub name_asked : Query → Option (List ℕ)
name_asked (query.Cone name number) = Some name
name_asked (query.Sets name case budgets) = Some name
name_asked (query.Aiger name number) = Some name
name_asked _ = None

-- the first fault of a text, which is that of each command that decides units; or that no unit has the name that is asked for
pub data IsFault : Query → List ℕ → ℕ → ℕ → Type 0 where
  faulty : {asked : Query} {text : List ℕ} (fault : Fault) → IsFaultOf text fault → IsFault asked text fault.number fault.at
  unnamed : {asked : Query} {text : List ℕ} (name : List ℕ) (plan : Plan) → name_asked asked ≡ Some name → HasPlan text plan → place_of (is_named plan.design name) plan.units ≡ None → IsFault asked text 26 0

-- these are the lines of a fault under a query
abbrev pub IsRefusal : Query → List ℕ → ℕ → ℕ → List ℕ → Type 0
IsRefusal query.Explain text number at answer = IsExplained text number at answer
IsRefusal _ text number at answer = answer ≡ fault_text text number at

-- the status under which these warnings are written
abbrev pub lint_status : List ℕ → Status
lint_status [] = Written
lint_status (byte ∷ lines) = Warned

-- the status under which the lines of a report are written, by whether every unit is true
abbrev pub report_status : Bool → Status
report_status true = Written
report_status false = Warned

-- the status and the whole answer that a query and its text call for
pub data IsDue : Query → List ℕ → Status → List ℕ → Type 0 where
  listed : {text : List ℕ} (plan : Plan) → HasPlan text plan → IsDue query.List text Written (list_lines text plan)
  shown : {text : List ℕ} {due : Status} {answer : List ℕ} (name : List ℕ) (number : ℕ) (plan : Plan) (u : ℕ) → HasPlan text plan → place_of (is_named plan.design name) plan.units ≡ Some u → IsShownAt plan u number due answer →
      IsDue (query.Cone name number) text due answer
  linted : {text : List ℕ} (tree : Text) (plan : Plan) → SpellsText text tree → HasPlan text plan → IsDue query.Lint text (lint_status (lint_lines text tree plan)) (lint_lines text tree plan)
  reported : {text : List ℕ} (plan : Plan) (report : Report) (allowed : List (List AbsValue)) → HasPlan text plan → IsRightReport text default_bits default_nodes default_steps report → AreAllowedByAll (script_of_plan plan) report.units allowed →
      IsDue query.Explain text (report_status (are_all_true report.units)) (explain_lines plan report allowed)
  sought : {text : List ℕ} {due : Status} {answer : List ℕ} (name : List ℕ) (case : Option ℕ) (budgets : Budgets) (plan : Plan) (u : ℕ) → HasPlan text plan → place_of (is_named plan.design name) plan.units ≡ Some u → AreSetsAt plan u case budgets due answer →
      IsDue (query.Sets name case budgets) text due answer
  fronted : {text : List ℕ} (plan : Plan) → HasPlan text plan → IsDue query.Front text Written (front text)
  modelled : {text : List ℕ} {due : Status} {answer : List ℕ} (name : List ℕ) (number : ℕ) (plan : Plan) (u : ℕ) → HasPlan text plan → place_of (is_named plan.design name) plan.units ≡ Some u → IsModelledAt plan u number due answer →
      IsDue (query.Aiger name number) text due answer
  refused : {asked : Query} {text answer : List ℕ} (number at : ℕ) → IsFault asked text number at → IsRefusal asked text number at answer → IsDue asked text Refused answer

abbrev pub usage_line : List ℕ
usage_line = codes "usage: smv_look list|cone NAME [CASE]|lint|explain|sets NAME [CASE]|front|aiger NAME [CASE] < TEXT" ++ 10 ∷ []

-- the same for words, which may be no query
abbrev pub IsDueTo : Option Query → List ℕ → Status → List ℕ → Type 0
IsDueTo None text due answer = (due ≡ Usage) × (answer ≡ usage_line)
IsDueTo (Some asked) text due answer = IsDue asked text due answer

-- what the source gave: the bytes that it told, or any where it tells none
abbrev pub Gave : Option (List ℕ) → List ℕ → Type 0
Gave left text = IfSome left (λ told. text ≡ told)

-- How a call ends. The whole answer was taken under the status to which it is due; under a fault of the sink a front of the answer that was due, and not all of it; and nothing where the text was not read, or where memory ran out.
abbrev pub Ends : Status → Option Query → List ℕ → Option (List ℕ) → Option (List ℕ) → Type 0
Ends ReadFault asked text old new = Keeps old new
Ends OutOfMemory asked text old new = Keeps old new
Ends WriteFault asked text old new = (due : Status) × (answer : List ℕ) × IsDueTo asked text due answer × TookFront old new answer
Ends ended asked text old new = (answer : List ℕ) × IsDueTo asked text ended answer × Appends old new answer
