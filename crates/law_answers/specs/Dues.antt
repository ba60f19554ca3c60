-- What a call owes: its status and its whole answer, as a command and a text call for them.
use Rattle.std.specs.Prelude.{◌≡◌, ◌≤◌, ◌<◌, ◌∷◌, ◌++◌, ℕ, Bool, true, false, List, [], codes, length, Option, Some, None, IfSome}
use Rattle.std.specs.Io.KnownBytes.{Appends, Keeps}
use Rattle.smv_core.specs.Values.{Name}
use Rattle.smv_core.specs.declared.fault.Fault.{Fault}
use Rattle.smv_core.specs.declared.tree.Text.{Text}
use Rattle.smv_core.specs.declared.flat.Unit.{Unit as DesignUnit}
use Rattle.smv_bits.specs.declared.Bits.{Bits}
use Rattle.smv_bits.specs.declared.Bits.TheVariants.{Near, Declared}
use Rattle.smv_problem.specs.declared.report.Budgets.{Budgets}
use Rattle.smv_problem.specs.declared.report.Verdict.{Verdict}
use Rattle.smv_problem.specs.declared.report.Report.{Report}
use Rattle.smv_io.specs.Transfers.{TookFront}
use Rattle.smv_parse.specs.Spelling.{HasFault}
use Rattle.smv_print.specs.Canonical.{canonical}
use Rattle.smv_report.specs.Lines.{fault_text}
use Rattle.law_reports.specs.Lines.{report_lines}
use Rattle.smv_report_lines.specs.Generated.{generated_lines}
use Rattle.smv_gen.specs.Generated.{generated_text}
use Rattle.smv_command.specs.declared.commands.Command.{Command}
use Rattle.smv_command.specs.declared.commands.Command.TheVariants.{Prove, Only, Print, Generated, Proof, Check, Resume, Confirm, Induct, Ltl}
use Rattle.smv_command.specs.declared.exit.Status.{Status}
use Rattle.smv_command.specs.declared.exit.Status.TheVariants as status
pub use Rattle.law_document_answers.specs.Statuses.{is_false, is_unknown, status_of}
pub use Rattle.law_document_answers.specs.Dues.{IsDocumentDue, check_limit, resume_limit}
use Rattle.law_valid_texts.specs.Plans.{IsTree}
pub use Rattle.law_valid_texts.specs.Plans.{limit}
use Rattle.law_valid_texts.specs.Faults.{pass_fault}
use Rattle.law_valid_texts.specs.Joined.{flat_design}
use Rattle.law_valid_texts.specs.Reports.{IsValid, IsRightReport, IsUnitReport, HasNoUnit}
use Rattle.law_confirmed.specs.Answers.{IsConfirmed, IsUnitFault, unit_called}
pub use Rattle.law_induct_answers.specs.Dues.{IsInductDue}
pub use Rattle.law_ltl_answers.specs.Dues.{IsLtlDue}
use Rattle.law_answers.specs.Confirmations.{confirmed_status, confirmed_lines}

-- ---- the commands

-- words that ask for a text
abbrev pub reads : Option Command → Bool
reads (Some (Prove bits budgets)) = true
reads (Some (Only name bits budgets)) = true
reads (Some Print) = true
reads (Some (Generated copies)) = false
reads (Some (Proof budgets)) = true
reads (Some Check) = true
reads (Some (Resume budgets)) = true
reads (Some (Confirm name sizes bits budgets)) = true
reads (Some (Induct name var budgets)) = true
reads (Some (Ltl bits budgets)) = true
reads None = false

-- a command that decides the units of its text
abbrev pub decides : Command → Bool
decides (Prove bits budgets) = true
decides (Only name bits budgets) = true
decides Print = false
decides (Generated copies) = true
decides (Proof budgets) = true
decides Check = false
decides (Resume budgets) = false
decides (Confirm name sizes bits budgets) = true
decides (Induct name var budgets) = false
decides (Ltl bits budgets) = false

-- a command that reads or writes proof documents, proves by induction or proves formulas over several times: what is due to it is said apart
abbrev pub is_of_own : Command → Bool
is_of_own (Proof budgets) = true
is_of_own Check = true
is_of_own (Resume budgets) = true
is_of_own (Induct name var budgets) = true
is_of_own (Ltl bits budgets) = true
is_of_own _ = false

-- the text of a command: the one that was read, or the generated one
abbrev pub text_for : Command → List ℕ → List ℕ
text_for (Prove bits budgets) text = text
text_for (Only name bits budgets) text = text
text_for Print text = text
text_for (Generated copies) text = generated_text copies
text_for (Proof budgets) text = text
text_for Check text = text
text_for (Resume budgets) text = text
text_for (Confirm name sizes bits budgets) text = text
text_for (Induct name var budgets) text = text
text_for (Ltl bits budgets) text = text

-- the most bytes that a command reads
abbrev pub limit_for : Command → ℕ
limit_for Check = check_limit
limit_for (Resume budgets) = resume_limit
limit_for _ = limit

-- the fault of a text that has more
abbrev pub length_fault : Command → ℕ
length_fault Check = 33
length_fault (Resume budgets) = 33
length_fault _ = 31

-- the budget of nodes of a command that names none
abbrev pub default_nodes : ℕ
default_nodes = 1000000

-- the budget of steps of one that names none
abbrev pub default_steps : ℕ
default_steps = 1000

-- the bits over which one that does not name any decides
abbrev pub default_bits : Bits
default_bits = Near

-- the right reports of what a command asks to decide of its text
abbrev pub IsReportFor : Command → List ℕ → Report → Type 0
IsReportFor (Prove bits budgets) text report = IsRightReport text bits budgets.nodes budgets.steps report
IsReportFor (Only name bits budgets) text report = IsUnitReport text name bits budgets.nodes budgets.steps report
IsReportFor Print text report = ⊥
IsReportFor (Generated copies) text report = IsRightReport text default_bits default_nodes default_steps report
IsReportFor (Proof budgets) text report = ⊥
IsReportFor Check text report = ⊥
IsReportFor (Resume budgets) text report = ⊥
IsReportFor (Confirm name sizes bits budgets) text report = ⊥
IsReportFor (Induct name var budgets) text report = ⊥
IsReportFor (Ltl bits budgets) text report = ⊥

-- the bits over which a command has its text decided
abbrev pub bits_of : Command → Bits
bits_of (Prove bits budgets) = bits
bits_of (Only name bits budgets) = bits
bits_of Print = Declared
bits_of (Generated copies) = default_bits
bits_of (Proof budgets) = Declared
bits_of Check = Declared
bits_of (Resume budgets) = Declared
bits_of (Confirm name sizes bits budgets) = bits
bits_of (Induct name var budgets) = Declared
bits_of (Ltl bits budgets) = bits

-- the status where all that a command asks to decide is true
abbrev pub proved_by : Command → Status
proved_by (Prove bits budgets) = status.AllProved
proved_by (Only name bits budgets) = status.PartProved
proved_by Print = status.Printed
proved_by (Generated copies) = status.Generated
proved_by (Proof budgets) = status.Documented
proved_by Check = status.Checked
proved_by (Resume budgets) = status.Resumed
proved_by (Confirm name sizes bits budgets) = status.HoldsHere
proved_by (Induct name var budgets) = status.Inducted
proved_by (Ltl bits budgets) = status.AllFormulas

-- what is written of a report
abbrev pub lines_for : Command → Report → List ℕ
lines_for (Prove bits budgets) report = report_lines report
lines_for (Only name bits budgets) report = report_lines report
lines_for Print report = report_lines report
lines_for (Generated copies) report = generated_lines copies report
lines_for (Proof budgets) report = report_lines report
lines_for Check report = report_lines report
lines_for (Resume budgets) report = report_lines report
lines_for (Confirm name sizes bits budgets) report = report_lines report
lines_for (Induct name var budgets) report = report_lines report
lines_for (Ltl bits budgets) report = report_lines report

-- ---- the answer

-- The first fault of a text under a command, by its number and its offset: its length, or else its form, or else, where units are to be decided, that of the earliest pass that finds one, or else that no
-- unit has the name that is asked for, or else, where it is to be confirmed, that of the unit at the given sizes.
pub data IsFault : Command → List ℕ → ℕ → ℕ → Type 0 where
  too_long : {command : Command} {text : List ℕ} → limit < length text → IsFault command text 31 0
  malformed : {command : Command} {text : List ℕ} (number at : ℕ) → length text ≤ limit → HasFault text number at → IsFault command text number at
  faulty : {command : Command} {text : List ℕ} (tree : Text) (fault : Fault) → decides command ≡ true → IsTree text tree → pass_fault tree ≡ Some fault → IsFault command text fault.number fault.at
  unnamed : {text : List ℕ} (name : List ℕ) (bits : Bits) (nodes steps : ℕ) → HasNoUnit text name → IsFault (Only name bits (record { nodes = nodes; steps = steps })) text 26 0
  of_unit : {text : List ℕ} (name sizes : List ℕ) (bits : Bits) (budgets : Budgets) (number at : ℕ) → IsUnitFault text name sizes number at → IsFault (Confirm name sizes bits budgets) text number at

-- the status and the whole answer that a command and its text call for
pub data IsDue : Command → List ℕ → Status → List ℕ → Type 0 where
  decided : {command : Command} {text : List ℕ} (report : Report) → IsReportFor command text report → IsDue command text (status_of (proved_by command) report) (lines_for command report)
  printed : {text : List ℕ} (tree : Text) → IsTree text tree → IsDue Print text status.Printed (canonical tree)
  refused : {command : Command} {text : List ℕ} (number at : ℕ) → is_of_own command ≡ false → IsFault command text number at → IsDue command text status.Refused (fault_text text number at)
  of_documents : {command : Command} {text : List ℕ} {due : Status} {answer : List ℕ} → IsDocumentDue command text due answer → IsDue command text due answer
  of_induction : {text : List ℕ} {due : Status} {answer : List ℕ} (name var : Name) (budgets : Budgets) → IsInductDue status.Inducted name var budgets text due answer → IsDue (Induct name var budgets) text due answer
  of_formulas : {text : List ℕ} {due : Status} {answer : List ℕ} (bits : Bits) (budgets : Budgets) → IsLtlDue status.AllFormulas bits budgets text due answer → IsDue (Ltl bits budgets) text due answer
  confirmed : {text : List ℕ} (name sizes : List ℕ) (bits : Bits) (budgets : Budgets) (tree : Text) (unit : DesignUnit) (verdict : Verdict) → IsValid text tree → unit_called (flat_design tree) name ≡ Some unit →
      IsConfirmed text name sizes bits budgets.nodes budgets.steps verdict → IsDue (Confirm name sizes bits budgets) text (confirmed_status verdict) (confirmed_lines (flat_design tree) unit name verdict)

-- what is written where the words are no command
abbrev pub usage_line : List ℕ
usage_line = codes "usage: smv prove|only|print|generated" ++ 10 ∷ []

-- the same for words, which may be no command, and for the text that was read
abbrev pub IsDueTo : Option Command → List ℕ → Status → List ℕ → Type 0
IsDueTo None text due answer = (due ≡ status.Usage) × (answer ≡ usage_line)
IsDueTo (Some command) text due answer = IsDue command (text_for command text) due answer

-- what the source gave: the bytes that it told, or any where it tells none
abbrev pub Gave : Option (List ℕ) → List ℕ → Type 0
Gave left text = IfSome left (λ told. text ≡ told)

-- How a call ends. The whole answer was taken under the status to which it is due; under a fault of the sink a front of the answer that was due, and not all of it; and nothing where the text that the words
-- ask for was not read, or where memory ran out.
abbrev pub Ends : Status → Option Command → List ℕ → Option (List ℕ) → Option (List ℕ) → Type 0
Ends status.ReadFault command text old new = (reads command ≡ true) × Keeps old new
Ends status.OutOfMemory command text old new = Keeps old new
Ends status.WriteFault command text old new = (due : Status) × (answer : List ℕ) × IsDueTo command text due answer × TookFront old new answer
Ends ended command text old new = (answer : List ℕ) × IsDueTo command text ended answer × Appends old new answer
